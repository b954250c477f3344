-- Names with the keys that a reload gives them, so far.
use Rattle.std.specs.Prelude.{if◌then◌else◌}
use Rattle.std.proofs.Common.{◌≡◌, ℕ, ◌+◌, Bool, true, false, List, [], ◌∷◌, ◌++◌, length, take, drop, get_or, Option, Some, None, refl, sym, ap, ◌∙◌, arith}
use Rattle.collate_name_list.specs.StoredNames.{StoredName, names_of, rekeyed, with_key}

-- the names stay
name_stays : (stored : StoredName) (key : Option (List ℕ)) → (with_key stored key).name ≡ stored.name
name_stays stored None = refl
name_stays stored (Some key) = refl

pub names_stay : (keys : List (Option (List ℕ))) (names : List StoredName) → names_of (rekeyed keys names) ≡ names_of names
names_stay [] names = refl
names_stay (key ∷ keys) [] = refl
names_stay (key ∷ keys) (stored ∷ names) =
    ap (λ name. name ∷ names_of (rekeyed keys names)) (name_stays stored key) ∙ ap (λ rest. stored.name ∷ rest) (names_stay keys names)

-- one key more
pub rekeyed_more : (keys : List (Option (List ℕ))) (key : Option (List ℕ)) (all later : List StoredName) (stored : StoredName) → drop (length keys) all ≡ stored ∷ later
    → (rekeyed (keys ++ key ∷ []) (take (length (keys ++ key ∷ [])) all) ≡ rekeyed keys (take (length keys) all) ++ with_key stored key ∷ []) × (drop (length (keys ++ key ∷ [])) all ≡ later)
rekeyed_more [] key [] later stored left = absurd (omega (arith, ap length left))
rekeyed_more [] key (first ∷ all) later stored left = (ap (λ names. rekeyed (key ∷ []) (take 1 names)) left, ap (drop 1) left)
rekeyed_more (k ∷ keys) key [] later stored left = absurd (omega (arith, ap length left))
rekeyed_more (k ∷ keys) key (first ∷ all) later stored left =
    let more = rekeyed_more keys key all later stored left in
    (ap (λ names. with_key first k ∷ names) more.0, more.1)

-- one key more that is none, where the others are none
pub kept_more : (keys : List (Option (List ℕ))) (key : Option (List ℕ)) (all later : List StoredName) (stored : StoredName) → drop (length keys) all ≡ stored ∷ later
    → with_key stored key ≡ stored → rekeyed keys (take (length keys) all) ≡ take (length keys) all
    → rekeyed (keys ++ key ∷ []) (take (length (keys ++ key ∷ [])) all) ≡ take (length (keys ++ key ∷ [])) all
kept_more [] key [] later stored left same kept = absurd (omega (arith, ap length left))
kept_more [] key (first ∷ all) later stored left same kept =
    ap (λ names. rekeyed (key ∷ []) (take 1 names)) left ∙ ap (λ (s : StoredName). s ∷ []) same ∙ sym (ap (take 1) left)
kept_more (k ∷ keys) key [] later stored left same kept = absurd (omega (arith, ap length left))
kept_more (k ∷ keys) key (first ∷ all) later stored left same kept =
    let more = kept_more keys key all later stored left same (ap (drop 1) kept) in
    ap (λ (s : StoredName). s ∷ rekeyed (keys ++ key ∷ []) (take (length (keys ++ key ∷ [])) all)) (ap (λ (names : List StoredName). get_or names 0 first) kept)
    ∙ ap (λ names. first ∷ names) more

-- no key was made
pub none_made : (due : Bool) (key : Option (List ℕ)) (new : List ℕ) (stored : StoredName) (count now : ℕ) → key ≡ (if due then Some new else None)
    → now ≡ (if due then count + 1 else count) → now ≡ 0 → (count ≡ 0) × (with_key stored key ≡ stored)
none_made true key new stored count now is counted nothing = absurd (omega (arith, counted, nothing))
none_made false key new stored count now is counted nothing = (sym counted ∙ nothing, ap (with_key stored) is)

-- the key that is due, or the old one
pub with_due : (due : Bool) (key : List ℕ) (stored : StoredName) → with_key stored (if due then Some key else None) ≡ record { key = if due then key else stored.key; name = stored.name }
with_due true key stored = refl
with_due false key stored = refl
