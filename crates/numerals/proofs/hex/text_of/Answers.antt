use Rattle.std.proofs.Common.{◌≡◌, ℕ, ◌/◌, ◌%◌, [], ◌∷◌, ◌++◌, get_or, take, string_bytes, sym, ap, ◌∙◌, arith}
use lib.Utf8.{encode}
use Rattle.std.proofs.lemmas.Slice.{pushed}
use Rattle.numerals.specs.Hexadecimals.{hex_digit, hex_text}
use Rattle.numerals.proofs.HexSteps.{ascii_two, text_more, no_text}
use Rattle.numerals.proofs.hex.text_of.Goals as goal

pub loop-byte-init : goal.loop-byte-init
loop-byte-init c = c.new-text.ensures.bytes ∙ sym no_text

pub loop-byte-preserved : goal.loop-byte-preserved
loop-byte-preserved c =
    let xs = c.args.bytes.now in
    let i = c.loop-byte.byte-index in
    let h = c.digit_of.result in
    let l = c.digit_of-in-loop-byte.result in
    let a : string_bytes c.push.new.self ≡ hex_text (take i xs) ++ encode h = pushed (encode h) c.loop-byte.invariant c.in_ok-push.was c.push.ensures.bytes in
    let b : string_bytes c.push-in-loop-byte.new.self ≡ (hex_text (take i xs) ++ encode h) ++ encode l = pushed (encode l) a c.in_ok-push-2.was c.push-in-loop-byte.ensures.bytes in
    let d : h ≡ hex_digit (get_or xs i 0 / 16) = c.digit_of.ensures.value in
    let e : l ≡ hex_digit (get_or xs i 0 % 16) = c.digit_of-in-loop-byte.ensures.value in
    b ∙ (ascii_two (hex_text (take i xs)) h l (encode h) (encode l) (c.push.ensures.ascii c.digit_of.ensures.ascii) (c.push-in-loop-byte.ensures.ascii c.digit_of-in-loop-byte.ensures.ascii)
    ∙ (ap (λ (w : ℕ). hex_text (take i xs) ++ (w ∷ l ∷ [])) d ∙ ap (λ (w : ℕ). hex_text (take i xs) ++ (hex_digit (get_or xs i 0 / 16) ∷ w ∷ [])) e)
    ∙ sym (text_more xs i (omega arith)))
