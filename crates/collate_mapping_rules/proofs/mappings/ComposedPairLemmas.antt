-- A set of the pairs that lines compose.
use Rattle.std.proofs.Common.{◌≡◌, ℕ, ◌+◌, ◌<◌, ◌==◌, ◌&&◌, ◌||◌, Bool, true, false, cond, not, List, [], ◌∷◌, ◌++◌, length, get_or, map, take, Option, Some, None, refl, sym, ap, ◌∙◌, subst}
use Rattle.std.specs.BTreeSet.{BTreeSet, contains}
use Rattle.std.specs.Cmp.{nat_eq_equiv}
use Rattle.std.specs.List.{list_any}
use Rattle.std.specs.Ordering.{is_eq}
use Rattle.std.proofs.lemmas.List.Folds.{list_any-append}
use Rattle.std.proofs.lemmas.List.{map_more}
use Rattle.collate_lines.specs.declared.record.Record.{Record as Line}
use Rattle.collate_lines.specs.Record.{Record, said}
use Rattle.collate_rules.specs.PartMaps.{HasComposed, pair_cmp}
use Rattle.collate_rules.specs.Rules.{is_same_pair, pair_in}
use Rattle.collate_rules.proofs.mappings.PartMapLemmas.{pair_at}

-- whether lines compose a pair
abbrev any_pair : Option (ℕ × ℕ) → List Record → Bool
any_pair o lines = list_any (λ s. is_same_pair (pair_in s) o) lines

twice : (b : Bool) → not (not b) ≡ b
twice true = refl
twice false = refl

pub repeated_told : (pairs : BTreeSet (ℕ × ℕ)) (lines : List Record) (given : Record) (p : ℕ × ℕ) (added : Bool) → Some p ≡ pair_in given → HasComposed pairs lines
    → added ≡ not (contains pair_cmp pairs p) → not added ≡ any_pair (pair_in given) lines
repeated_told pairs lines given p added is has told =
    ap not told ∙ twice (contains pair_cmp pairs p) ∙ has p.0 p.1 ∙ ap (λ (o : Option (ℕ × ℕ)). any_pair o lines) is

-- one line more, which composes a pair,
same_turned : (p : ℕ × ℕ) (a b : ℕ) → ((a == p.0) && (b == p.1)) ≡ ((p.0 == a) && (p.1 == b))
same_turned p a b =
    let first : (a == p.0) ≡ (p.0 == a) = nat_eq_equiv.symm a p.0 in
    let second : (b == p.1) ≡ (p.1 == b) = nat_eq_equiv.symm b p.1 in
    ap (λ (t : Bool). t && (b == p.1)) first ∙ ap (λ (t : Bool). (p.0 == a) && t) second

or_last : (t x : Bool) → cond t true x ≡ (x || (t || false))
or_last true true = refl
or_last true false = refl
or_last false true = refl
or_last false false = refl

pub composed_push : (old new : BTreeSet (ℕ × ℕ)) (lines : List Record) (given : Record) (p : ℕ × ℕ) → Some p ≡ pair_in given → HasComposed old lines
    → ((q : ℕ × ℕ) → contains pair_cmp new q ≡ cond (is_eq (pair_cmp p q)) true (contains pair_cmp old q)) → HasComposed new (lines ++ given ∷ [])
composed_push old new lines given p is has put a b =
    let here : is_same_pair (pair_in given) (Some (a, b)) ≡ ((p.0 == a) && (p.1 == b)) = ap (λ (o : Option (ℕ × ℕ)). is_same_pair o (Some (a, b))) (sym is) in
    put (a, b)
    ∙ ap (λ (t : Bool). cond t true (contains pair_cmp old (a, b))) (pair_at p a b ∙ same_turned p a b)
    ∙ ap (λ (x : Bool). cond ((p.0 == a) && (p.1 == b)) true x) (has a b)
    ∙ or_last ((p.0 == a) && (p.1 == b)) (any_pair (Some (a, b)) lines)
    ∙ ap (λ (t : Bool). any_pair (Some (a, b)) lines || (t || false)) (sym here)
    ∙ sym (list_any-append (λ s. is_same_pair (pair_in s) (Some (a, b))) lines (given ∷ []))

or_nothing : (x : Bool) → x ≡ (x || (false || false))
or_nothing true = refl
or_nothing false = refl

-- or none
pub composed_skip : (pairs : BTreeSet (ℕ × ℕ)) (lines : List Record) (given : Record) → None ≡ pair_in given → HasComposed pairs lines → HasComposed pairs (lines ++ given ∷ [])
composed_skip pairs lines given is has a b =
    let here : is_same_pair (pair_in given) (Some (a, b)) ≡ false = ap (λ (o : Option (ℕ × ℕ)). is_same_pair o (Some (a, b))) (sym is) in
    has a b ∙ or_nothing (any_pair (Some (a, b)) lines)
    ∙ ap (λ (t : Bool). any_pair (Some (a, b)) lines || (t || false)) (sym here)
    ∙ sym (list_any-append (λ s. is_same_pair (pair_in s) (Some (a, b))) lines (given ∷ []))

-- the same of the lines up to one
pub composed_to : (pairs : BTreeSet (ℕ × ℕ)) (lines : List Line) (i : ℕ) (x : Line) → i < length lines → x ≡ get_or lines i x
    → HasComposed pairs (map said (take i lines) ++ said x ∷ []) → HasComposed pairs (map said (take (i + 1) lines))
composed_to pairs lines i x within read has =
    subst (HasComposed pairs) (sym (map_more said lines i x within ∙ ap (λ (y : Line). map said (take i lines) ++ said y ∷ []) (sym read))) has

-- no lines
pub composed_none : (pairs : BTreeSet (ℕ × ℕ)) → pairs.keys ≡ [] → HasComposed pairs []
composed_none pairs none a b = ap (λ (ks : List (ℕ × ℕ)). contains pair_cmp (record { keys = ks }) (a, b)) none
