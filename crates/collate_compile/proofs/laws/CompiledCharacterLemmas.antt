-- What the grammar gives of the texts and prefixes of lines: their characters are scalar values, a text has one at least,
-- and a prefix at most three.
use Rattle.std.proofs.Common.{◌≡◌, ℕ, ◌<◌, ◌≤◌, Bool, true, leb, List, [], ◌∷◌, length, Option, Some, None, refl, arith}
use Rattle.std.specs.Prelude.{◌==◌, codes, if◌then◌else◌, option_and_then}
use Rattle.std.specs.List.{slice_split}
use Rattle.std.proofs.lemmas.Bool.{and_from, leb-true}
use Rattle.std.proofs.lemmas.Bool.Decides.{nat_tests}
use lib.Utf8.{scalar, scalars}
use Rattle.collate_lines.specs.Record.{Record, nothing, class, mapping, compatibility, weights, range, digit, setting, Layer, root, tailoring}
use Rattle.collate_lines.specs.Grammar.{checked, class_by, class_number, code_point, compatibility_by, digit_by, digit_to, element, ending_by, hex_number, hex_of, is_scalar, is_short, key_by, listed, mapping_by, parted, range_by, record_by, record_of, set_by, setting_by, some_listed, step_number, weights_by}
use Rattle.collate_rules.proofs.given.GivesLemmas.{Gives, gives_bound, gives_checked, gives_either, gives_none, gives_some}

-- the characters of a line's text and prefix
pub record AreCharacters (prefix text : List ℕ) : Type 0 where
  pub before : scalars prefix ≡ true
  pub whole : scalars text ≡ true
  pub some : 0 < length text
  pub short : length prefix ≤ 3

abbrev pub HasCharacters : Record → Type 0
HasCharacters (weights layer prefix text es) = AreCharacters prefix text
HasCharacters _ = Unit {0}

-- ---- Characters

scalar_read : (c : ℕ) → is_scalar c ≡ true → scalar c ≡ true
scalar_read c h = grind (arith, nat_tests)

abbrev IsCharacter : ℕ → Type 0
IsCharacter c = scalar c ≡ true

one_character : (field : List ℕ) → Gives IsCharacter (code_point field)
one_character field =
    gives_either IsCharacter (is_short 4 6 field) _ None
    (λ short. gives_bound IsCharacter (hex_number field) _
    (λ c is. gives_checked IsCharacter (is_scalar c) c (scalar_read c)))
    (gives_none IsCharacter)

abbrev AreScalars : List ℕ → Type 0
AreScalars cs = scalars cs ≡ true

characters : (fields : List (List ℕ)) → Gives AreScalars (listed code_point fields)
characters [] = gives_some AreScalars [] refl
characters (field ∷ fields) =
    gives_bound AreScalars (code_point field) _ (λ c is.
    gives_bound AreScalars (listed code_point fields) _ (λ cs are.
    gives_some AreScalars (c ∷ cs)
    (and_from (scalar c) (scalars cs) (one_character field c is) (characters fields cs are))))

-- one character at least
abbrev AreSome : List ℕ → Type 0
AreSome cs = (scalars cs ≡ true) × (0 < length cs)

some_characters : (fields : List (List ℕ)) → Gives AreSome (some_listed code_point fields)
some_characters [] = gives_none AreSome
some_characters (field ∷ fields) =
    gives_bound AreSome (code_point field) _ (λ c is.
    gives_bound AreSome (listed code_point fields) _ (λ cs are.
    gives_some AreSome (c ∷ cs)
    (and_from (scalar c) (scalars cs) (one_character field c is) (characters fields cs are), omega arith)))

-- ---- Keys

abbrev IsKey : List ℕ × List ℕ → Type 0
IsKey key = AreCharacters key.0 key.1

key_read : (fields : List (List ℕ)) → Gives IsKey (key_by fields)
key_read fields = at (parted (codes "|") fields)
  where
    at : (o : Option (List (List ℕ) × List (List ℕ)))
        → Gives IsKey
        (elim o [
          | None ↦ option_and_then (λ text. Some ([], text)) (some_listed code_point fields)
          | Some parts ↦ option_and_then
              (λ prefix. option_and_then (λ text. checked (leb (length prefix) 3) (prefix, text))
              (some_listed code_point parts.1))
              (some_listed code_point parts.0)
        ])
    at None =
        gives_bound IsKey (some_listed code_point fields) _
        (λ text is. gives_some IsKey ([], text)
        (let told = some_characters fields text is in record { before = refl; whole = told.0; some = told.1; short = omega arith }))
    at (Some parts) =
        gives_bound IsKey (some_listed code_point parts.0) _ (λ prefix is.
        gives_bound IsKey (some_listed code_point parts.1) _ (λ text also.
        gives_checked IsKey (leb (length prefix) 3) (prefix, text) (λ short.
        record {
          before = (some_characters parts.0 prefix is).0;
          whole = (some_characters parts.1 text also).0;
          some = (some_characters parts.1 text also).1;
          short = leb-true (length prefix) 3 short;
        })))

-- ---- Lines

abbrev Keeps : Option Record → Type 0
Keeps given = Gives HasCharacters given

no_line : Keeps None
no_line = gives_none HasCharacters

bound : {A : Type 0} (given : Option A) (f : A → Option Record) → ((a : A) → given ≡ Some a → Keeps (f a))
    → Keeps (option_and_then f given)
bound given f h = gives_bound HasCharacters given f h

class_keeps : (fields : List (List ℕ)) → Keeps (class_by fields)
class_keeps [] = no_line
class_keeps (c ∷ []) = no_line
class_keeps (c ∷ n ∷ []) =
    bound (code_point c) _ (λ d is. bound (class_number n) _ (λ k are. gives_some HasCharacters (class d k) tt))
class_keeps (c ∷ n ∷ x ∷ xs) = no_line

mapping_keeps : (fields : List (List ℕ)) → Keeps (mapping_by fields)
mapping_keeps [] = no_line
mapping_keeps (c ∷ []) = no_line
mapping_keeps (c ∷ d ∷ fields) =
    bound (code_point c) _ (λ a is.
    bound (code_point d) _ (λ b also.
    bound (ending_by fields) _ (λ ending ends. gives_some HasCharacters (mapping a (b ∷ ending.0) ending.1) tt)))

compatibility_keeps : (fields : List (List ℕ)) → Keeps (compatibility_by fields)
compatibility_keeps [] = no_line
compatibility_keeps (c ∷ fields) =
    bound (code_point c) _
    (λ a is. bound (some_listed code_point fields) _ (λ ds are. gives_some HasCharacters (compatibility a ds) tt))

weights_keep : (layer : Layer) (fields : List (List ℕ)) → Keeps (weights_by layer fields)
weights_keep layer fields =
    bound (parted (codes ";") fields) _ (λ parts are.
    bound (key_by parts.0) _ (λ key is.
    bound (listed element parts.1) _
    (λ es read. gives_some HasCharacters (weights layer key.0 key.1 es) (key_read parts.0 key is))))

range_keeps : (fields : List (List ℕ)) → Keeps (range_by fields)
range_keeps [] = no_line
range_keeps (c ∷ []) = no_line
range_keeps (c ∷ d ∷ []) = no_line
range_keeps (c ∷ d ∷ p ∷ []) = no_line
range_keeps (c ∷ d ∷ p ∷ n ∷ []) =
    bound (code_point c) _ (λ a is.
    bound (code_point d) _ (λ b also.
    bound (hex_of 8 p) _ (λ q has.
    bound (step_number n) _
    (λ m steps. gives_some HasCharacters (range (record { first = a; last = b; primary = q; step = m })) tt))))
range_keeps (c ∷ d ∷ p ∷ n ∷ x ∷ xs) = no_line

digit_keeps : (fields : List (List ℕ)) → Keeps (digit_by fields)
digit_keeps [] = no_line
digit_keeps (c ∷ []) = no_line
digit_keeps (c ∷ n ∷ []) =
    bound (code_point c) _ (λ a is. bound (digit_to 9 n) _ (λ v has. gives_some HasCharacters (digit a v) tt))
digit_keeps (c ∷ n ∷ x ∷ xs) = no_line

set_keeps : (fields : List (List ℕ)) → Keeps (set_by fields)
set_keeps [] = no_line
set_keeps (name ∷ values) = bound (setting_by name values) _ (λ s is. gives_some HasCharacters (setting s) tt)

-- one of two forms, by a word
one_of : (b : Bool) (x y : Option Record) → Keeps x → Keeps y → Keeps (if b then x else y)
one_of b x y h k = gives_either HasCharacters b x y (λ _. h) k

fields_keep : (fields : List (List ℕ)) → Keeps (record_by fields)
fields_keep [] = no_line
fields_keep (word ∷ fields) =
    one_of _ _ _ (class_keeps fields)
    (one_of _ _ _ (mapping_keeps fields)
    (one_of _ _ _ (compatibility_keeps fields)
    (one_of _ _ _ (weights_keep root fields)
    (one_of _ _ _ (weights_keep tailoring fields)
    (one_of _ _ _ (range_keeps fields)
    (one_of _ _ _ (digit_keeps fields)
    (one_of _ _ _ (set_keeps fields) no_line)))))))

-- the texts and prefixes of a line in the grammar
pub line_has_characters : (line : List ℕ) (given : Record) → record_of line ≡ Some given → HasCharacters given
line_has_characters line =
    one_of _ _ _ no_line
    (one_of _ _ _ (gives_some HasCharacters nothing tt) (fields_keep (slice_split (λ b. b == 32) line)))
