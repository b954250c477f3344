-- The keys that a collator over a records file makes, and bytes as they are printed.
use Rattle.std.specs.Prelude.{ℕ, ◌+◌, ◌-◌, ◌*◌, cond, ltb, List, [], ◌∷◌, length, drop}
use Rattle.std.specs.Ordering.{nat_cmp}
use Rattle.std.specs.Cmp.Lexicographic.{slice_cmp}
use Rattle.std.specs.declared.cmp.Ordering.{Ordering}
use Rattle.icu_collator.specs.KeyBytes.{key_of_text}
use Rattle.examples_uses.specs.Files.{Lines, meant}
use Rattle.examples_uses.specs.Asked.{Asked, options_of}

-- the key of a text, given as characters
abbrev pub key : Lines → Asked → List ℕ → List ℕ
key lines asked text = key_of_text (meant lines) (options_of lines asked) text

-- the value of a digit of hexadecimal, in lower case
abbrev pub hex_digit : ℕ → ℕ
hex_digit c = cond (ltb c 0x61) (c - 0x30) (c - 0x57)

-- bytes that are printed as these pairs of digits
abbrev pub hex : List ℕ → List ℕ
hex [] = []
hex (c ∷ []) = []
hex (c ∷ d ∷ cs) = (hex_digit c * 16 + hex_digit d) ∷ hex cs

-- the last n bytes
abbrev pub last_bytes : ℕ → List ℕ → List ℕ
last_bytes n bytes = drop (length bytes - n) bytes

-- how two keys order
abbrev pub bytes_order : List ℕ → List ℕ → Ordering
bytes_order a b = slice_cmp nat_cmp a b
