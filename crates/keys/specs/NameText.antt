-- Names as text: a space and a per cent sign as a per cent sign and two hexadecimal digits, all else plain.
--
-- space, per_cent          the bytes of a space and of a per cent sign
-- first_byte cs            the byte that text begins with, plain or escaped: None for a bad escape and for a space
-- first_length cs          how many bytes of the text it takes: three if it is escaped, else one
-- unescaped k cs           the bytes that text gives, if there are at most k, and each can be read
-- spelled_by o             the name of the characters in o
-- name_text cs             the name that text is, if it gives one to eight bytes, and each is a character
-- shown_byte b             the text of one byte of a name: nothing for padding, and for a plain character its code in UTF-8, that is itself
-- name_shown k             the text of a name
use Rattle.std.specs.Prelude.{ℕ, zero, suc, cond, List, [], ◌++◌, length, drop, Some, None, codes, Option, ◌==◌, slice_index}
use Rattle.std.proofs.Math.Utf8.{encode}
use Rattle.keys.specs.declared.name.Name.{Name}
use Rattle.numerals.specs.Hexadecimals.{hex_byte, in_front}
use Rattle.keys.specs.Names.{spelled}

abbrev pub space : ℕ
space = 32

abbrev pub per_cent : ℕ
per_cent = 37

abbrev pub first_byte : List ℕ → Option ℕ
first_byte cs = cond (slice_index cs 0 == per_cent) (hex_byte (slice_index cs 1) (slice_index cs 2)) (cond (slice_index cs 0 == space) None (Some (slice_index cs 0)))

abbrev pub first_length : List ℕ → ℕ
first_length cs = cond (slice_index cs 0 == per_cent) 3 1

unfoldable pub unescaped : ℕ → List ℕ → Option (List ℕ)
unescaped zero cs = cond (length cs == 0) (Some []) None
unescaped (suc k) cs = cond (length cs == 0) (Some []) (in_front (first_byte cs) (unescaped k (drop (first_length cs) cs)))

abbrev pub spelled_by : Option (List ℕ) → Option Name
spelled_by None = None
spelled_by (Some bs) = spelled bs

abbrev pub name_text : List ℕ → Option Name
name_text cs = spelled_by (unescaped 8 cs)

unfoldable pub shown_byte : ℕ → List ℕ
shown_byte b = cond (b == 0) [] (cond (b == space) (codes "%20") (cond (b == per_cent) (codes "%25") (encode b)))

abbrev pub name_shown : Name → List ℕ
name_shown k =
    shown_byte k.first ++ (shown_byte k.second ++ (shown_byte k.third ++ (shown_byte k.fourth ++ (shown_byte k.fifth ++ (shown_byte k.sixth ++ (shown_byte k.seventh ++ shown_byte k.eighth))))))
