-- The forms of lines: what a row of fields of no form says, what fields list, and the parts of a row round a word.
use Rattle.std.specs.Prelude.{if◌then◌else◌, bytes_eq}
use Rattle.std.proofs.Common.{Bool, true, false, take, ◌≡◌, ◌≢◌, ℕ, ◌+◌, ◌<◌, List, [], ◌∷◌, ◌++◌, map, drop, length, get_or, Bor, Option, Some, None, sym, refl, ap, ◌∙◌, arith, option_map, append_assoc, append-nil}
use Rattle.std.proofs.lemmas.List.{at_drop_more, take_more, map-append}
use Rattle.collate_lines.specs.Grammar.{class_by, mapping_by, range_by, lead_pairs, listed, parted, ◌>>=◌}

-- The definition of parts, taken apart.
abbrev parted_at : Bool → List ℕ → List (List ℕ) → Option (List (List ℕ) × List (List ℕ)) → Option (List (List ℕ) × List (List ℕ))
parted_at b c fields later = if b then Some ([], fields) else (later >>= λ parts. Some (c ∷ parts.0, parts.1))

-- the bytes of fields
abbrev pub bytes_of : List (Bor (List ℕ)) → List (List ℕ)
bytes_of fields = map (λ field. field.now) fields

-- a class line has two fields
pub class_other : (fields : List (Bor (List ℕ))) → length fields ≢ 2 → None ≡ class_by (bytes_of fields)
class_other [] h = refl
class_other (c ∷ []) h = refl
class_other (c ∷ n ∷ []) h = absurd (h refl)
class_other (c ∷ n ∷ more ∷ fields) h = refl

-- a map line has two fields at least
pub mapping_few : (fields : List (Bor (List ℕ))) → length fields < 2 → None ≡ mapping_by (bytes_of fields)
mapping_few [] h = refl
mapping_few (c ∷ []) h = refl
mapping_few (c ∷ d ∷ fields) h = absurd (omega arith)

-- a range line has four fields
pub range_other : (fields : List (Bor (List ℕ))) → length fields ≢ 4 → None ≡ range_by (bytes_of fields)
range_other [] h = refl
range_other (c ∷ []) h = refl
range_other (c ∷ d ∷ []) h = refl
range_other (c ∷ d ∷ p ∷ []) h = refl
range_other (c ∷ d ∷ p ∷ n ∷ []) h = absurd (h refl)
range_other (c ∷ d ∷ p ∷ n ∷ more ∷ fields) h = refl

-- no field is left, or one
pub pairs_ended : (so_far : List (ℕ × ℕ)) (all rest : List (Bor (List ℕ))) → lead_pairs (bytes_of all) ≡ option_map (λ more. so_far ++ more) (lead_pairs (bytes_of rest)) → length rest ≡ 0 → Some so_far ≡ lead_pairs (bytes_of all)
pairs_ended so_far all [] e none = ap Some (sym (append-nil so_far)) ∙ sym e
pairs_ended so_far all (field ∷ rest) e none = absurd (omega arith)

pub pairs_cut : (so_far : List (ℕ × ℕ)) (all rest : List (Bor (List ℕ))) → lead_pairs (bytes_of all) ≡ option_map (λ more. so_far ++ more) (lead_pairs (bytes_of rest)) → length rest ≢ 0 → length rest < 2 → None ≡ lead_pairs (bytes_of all)
pairs_cut so_far all [] e some few = absurd (some refl)
pairs_cut so_far all (field ∷ []) e some few = sym e
pairs_cut so_far all (field ∷ other ∷ rest) e some few = absurd (omega arith)

-- one thing, then others, after those so far
listed_joined : {A : Type 0} (so_far : List A) (one : Option A) (e : A) (others : Option (List A)) → one ≡ Some e → option_map (λ rest. so_far ++ rest) (one >>= λ first. others >>= λ more. Some (first ∷ more)) ≡ option_map (λ rest. (so_far ++ e ∷ []) ++ rest) others
listed_joined so_far one e None is = ap (λ o. option_map (λ rest. so_far ++ rest) (o >>= λ first. None)) is
listed_joined so_far one e (Some more) is =
    ap (λ o. option_map (λ rest. so_far ++ rest) (o >>= λ first. Some (first ∷ more))) is ∙ ap Some (sym (append_assoc so_far (e ∷ []) more))

-- what the next field lists joins what those before it list
pub listed_more : {A : Type 0} (form : List ℕ → Option A) (so_far : List A) (fields : List (Bor (List ℕ))) (i : ℕ) (d : Bor (List ℕ)) (e : A) → i < length fields → form (get_or fields i d).now ≡ Some e → option_map (λ rest. so_far ++ rest) (listed form (bytes_of (drop i fields))) ≡ option_map (λ rest. (so_far ++ e ∷ []) ++ rest) (listed form (bytes_of (drop (i + 1) fields)))
listed_more form so_far fields i d e below is =
    at_drop_more (λ left. option_map (λ rest. so_far ++ rest) (listed form (bytes_of left))) fields i d below
    ∙ listed_joined so_far _ e _ is

-- the word stands at a place, and not before it
pub parted_here : (word : List ℕ) (fields : List (Bor (List ℕ))) (i : ℕ) (d : Bor (List ℕ)) → i < length fields → bytes_eq (get_or fields i d).now word ≡ true
    → parted word (bytes_of (drop i fields)) ≡ Some ([], bytes_of (drop (i + 1) fields))
parted_here word fields i d below is =
    at_drop_more (λ left. parted word (bytes_of left)) fields i d below
    ∙ ap (λ (b : Bool). parted_at b (get_or fields i d).now (bytes_of (drop (i + 1) fields)) (parted word (bytes_of (drop (i + 1) fields)))) is

-- the word doesn't stand at a place
pub parted_later : (word : List ℕ) (fields : List (Bor (List ℕ))) (i : ℕ) (d : Bor (List ℕ)) → i < length fields → bytes_eq (get_or fields i d).now word ≡ false
    → parted word (bytes_of (drop i fields)) ≡ (parted word (bytes_of (drop (i + 1) fields)) >>= λ parts. Some ((get_or fields i d).now ∷ parts.0, parts.1))
parted_later word fields i d below is =
    at_drop_more (λ left. parted word (bytes_of left)) fields i d below
    ∙ ap (λ (b : Bool). parted_at b (get_or fields i d).now (bytes_of (drop (i + 1) fields)) (parted word (bytes_of (drop (i + 1) fields)))) is

-- the fields before the word, after those so far
abbrev pub parted_after : List (Bor (List ℕ)) → Option (List (List ℕ) × List (List ℕ)) → Option (List (List ℕ) × List (List ℕ))
parted_after before o = option_map (λ parts. (bytes_of before ++ parts.0, parts.1)) o

pub parted_more : (word : List ℕ) (fields : List (Bor (List ℕ))) (i : ℕ) (d : Bor (List ℕ)) → i < length fields → bytes_eq (get_or fields i d).now word ≡ false
    → parted_after (take i fields) (parted word (bytes_of (drop i fields))) ≡ parted_after (take (i + 1) fields) (parted word (bytes_of (drop (i + 1) fields)))
parted_more word fields i d below is =
    ap (parted_after (take i fields)) (parted_later word fields i d below is) ∙ by (parted word (bytes_of (drop (i + 1) fields)))
  where
    taken : bytes_of (take (i + 1) fields) ≡ bytes_of (take i fields) ++ (get_or fields i d).now ∷ []
    taken = ap bytes_of (take_more fields i d below) ∙ map-append (λ (field : Bor (List ℕ)). field.now) (take i fields) (get_or fields i d ∷ [])

    by : (o : Option (List (List ℕ) × List (List ℕ))) → parted_after (take i fields) (o >>= λ parts. Some ((get_or fields i d).now ∷ parts.0, parts.1)) ≡ parted_after (take (i + 1) fields) o
    by None = refl
    by (Some parts) =
        ap (λ (before : List (List ℕ)). Some (before, parts.1)) (sym (append_assoc (bytes_of (take i fields)) ((get_or fields i d).now ∷ []) (parts.0)) ∙ ap (λ (before : List (List ℕ)). before ++ parts.0) (sym taken))
