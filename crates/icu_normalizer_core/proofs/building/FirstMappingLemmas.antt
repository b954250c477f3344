-- Maps of the first mapping that is given for each character: one mapping more.
use Rattle.std.proofs.Common.{◌≡◌, ℕ, ◌+◌, ◌<◌, ◌≤◌, ◌↔◌, ⊎_elim, Bool, true, false, cond, List, [], ◌∷◌, ◌++◌, length, take, get_or, slice_get, slice_index_or, Option, Some, None, ◌==◌, refl, sym, ap, subst, ◌∙◌, arith}
use denote.Ref.{Bor}
use Rattle.std.specs.Prelude.{MatchOption, option_copied}
use Rattle.std.specs.BTreeMap.{BTreeMap, get}
use Rattle.std.specs.Bool.{IsTrue}
use Rattle.std.specs.List.{All, find}
use Rattle.std.specs.Option.{option_or}
use Rattle.std.specs.Ordering.{nat_cmp}
use Rattle.std.proofs.lemmas.Bool.{cases_lt, false≢true}
use Rattle.std.proofs.lemmas.List.{get_or_default, take_all, take_more}
use Rattle.std.proofs.lemmas.List.Folds.{find-append}
use Rattle.icu_normalizer_core.specs.declared.builder.given.GivenCompatibility.{GivenCompatibility}
use Rattle.icu_normalizer_core.specs.declared.builder.given.GivenMapping.{GivenMapping}
use Rattle.icu_normalizer_core.specs.CompatibilityMaps.{first_given}
use Rattle.icu_normalizer_core.specs.FirstMappings.{HasFirstCompatibilities, HasFirstMappings, HasFirstIndices}
use Rattle.icu_normalizer_core.proofs.settling.SettlingLemmas.{none_inside}

-- the first that passes, of one element more
pub find_more : {X : Type 0} (p : X → Bool) (xs : List X) (i : ℕ) (x d : X) → i < length xs → x ≡ get_or xs i d → find p (take (i + 1) xs) ≡ option_or (find p (take i xs)) (cond (p x) (Some x) None)
find_more {X} p xs i x d h is =
    ap (λ (ys : List X). find p ys) (subst (λ (y : X). take (i + 1) xs ≡ take i xs ++ y ∷ []) (sym is) (take_more xs i d h)) ∙ find-append p (take i xs) (x ∷ [])

pub mapping_noted : (mappings : List GivenMapping) (i : ℕ) (given d : GivenMapping) (old new : BTreeMap ℕ GivenMapping) → i < length mappings → given ≡ get_or mappings i d
    → HasFirstMappings (take i mappings) old
    → ((c : ℕ) → get nat_cmp new c ≡ option_or (get nat_cmp old c) (cond (given.character == c) (Some given) None)) → HasFirstMappings (take (i + 1) mappings) new
mapping_noted mappings i given d old new h is has noted c =
    noted c ∙ ap (λ (o : Option GivenMapping). option_or o (cond (given.character == c) (Some given) None)) (has c)
    ∙ sym (find_more (λ g. g.character == c) mappings i given d h is)

copied_or : (b : Bool) (o : Option (Bor GivenCompatibility)) (one : Bor GivenCompatibility)
    → option_copied (option_or o (cond b (Some one) None)) ≡ option_or (option_copied o) (cond b (Some one.now) None)
copied_or b (Some x) one = refl
copied_or true None one = refl
copied_or false None one = refl

pub compatibility_noted : (given : List GivenCompatibility) (i : ℕ) (one : Bor GivenCompatibility) (d : GivenCompatibility) (old new : BTreeMap ℕ (Bor GivenCompatibility)) → i < length given → one.now ≡ get_or given i d
    → HasFirstCompatibilities (take i given) old
    → ((c : ℕ) → get nat_cmp new c ≡ option_or (get nat_cmp old c) (cond (one.now.character == c) (Some one) None)) → HasFirstCompatibilities (take (i + 1) given) new
compatibility_noted given i one d old new h is has noted c =
    ap (λ (o : Option (Bor GivenCompatibility)). option_copied o) (noted c) ∙ copied_or (one.now.character == c) (get nat_cmp old c) one
    ∙ ap (λ (o : Option GivenCompatibility). option_or o (cond (one.now.character == c) (Some one.now) None)) (has c)
    ∙ sym (find_more (λ g. g.character == c) given i one.now d h is)

-- ---- Indices

-- the map has the index of the first mapping of each character among the first mappings
abbrev pub HasIndicesTo : List GivenCompatibility → ℕ → BTreeMap ℕ ℕ → Type 0
HasIndicesTo given count indices =
    (c : ℕ) → MatchOption (get nat_cmp indices c) (first_given (take count given) c ≡ None) (λ index. (index < length given) × (first_given (take count given) c ≡ slice_get given index))

pub no_index_noted : (given : List GivenCompatibility) (indices : BTreeMap ℕ ℕ) → ((c : ℕ) → get nat_cmp indices c ≡ None) → HasIndicesTo given 0 indices
no_index_noted given indices none c = subst (λ (o : Option ℕ). MatchOption o (first_given (take 0 given) c ≡ None) (λ index. (index < length given) × (first_given (take 0 given) c ≡ slice_get given index))) (sym (none c)) refl

pub all_indices_noted : (given : List GivenCompatibility) (count : ℕ) (indices : BTreeMap ℕ ℕ) → length given ≤ count → HasIndicesTo given count indices → HasFirstIndices given indices
all_indices_noted given count indices past has = subst (λ (xs : List GivenCompatibility). (c : ℕ) → MatchOption (get nat_cmp indices c) (first_given xs c ≡ None) (λ index. (index < length given) × (first_given xs c ≡ slice_get given index))) (take_all count given past) has

-- the first of a list and one more
index_or : (given : List GivenCompatibility) (i : ℕ) (one : GivenCompatibility) (b : Bool) (o : Option ℕ) (first : Option GivenCompatibility) → i < length given → slice_get given i ≡ Some one
    → MatchOption o (first ≡ None) (λ index. (index < length given) × (first ≡ slice_get given index))
    → MatchOption (option_or o (cond b (Some i) None)) (option_or first (cond b (Some one) None) ≡ None) (λ index. (index < length given) × (option_or first (cond b (Some one) None) ≡ slice_get given index))
index_or given i one true None first h at none = (h, ap (λ (f : Option GivenCompatibility). option_or f (Some one)) none ∙ sym at)
index_or given i one false None first h at none = ap (λ (f : Option GivenCompatibility). option_or f None) none
index_or given i one b (Some index) None h at found = absurd (none_inside given index found.0 (sym found.1))
index_or given i one b (Some index) (Some first) h at found = found

pub index_noted : (given : List GivenCompatibility) (i k : ℕ) (one : GivenCompatibility) (old new : BTreeMap ℕ ℕ) → i < length given → slice_get given i ≡ Some one → one ≡ get_or given i one
    → k ≡ one.character → HasIndicesTo given i old → ((c : ℕ) → get nat_cmp new c ≡ option_or (get nat_cmp old c) (cond (k == c) (Some i) None)) → HasIndicesTo given (i + 1) new
index_noted given i k one old new h at is same has noted c =
    let more : first_given (take (i + 1) given) c ≡ option_or (first_given (take i given) c) (cond (one.character == c) (Some one) None) = find_more (λ g. g.character == c) given i one one h is in
    let found : get nat_cmp new c ≡ option_or (get nat_cmp old c) (cond (one.character == c) (Some i) None) =
    subst (λ (n : ℕ). get nat_cmp new c ≡ option_or (get nat_cmp old c) (cond (n == c) (Some i) None)) same (noted c) in
    subst (λ (o : Option ℕ). MatchOption o (first_given (take (i + 1) given) c ≡ None) (λ index. (index < length given) × (first_given (take (i + 1) given) c ≡ slice_get given index))) (sym found)
    (subst (λ (f : Option GivenCompatibility). MatchOption (option_or (get nat_cmp old c) (cond (one.character == c) (Some i) None)) (f ≡ None) (λ index. (index < length given) × (f ≡ slice_get given index))) (sym more)
    (index_or given i one (one.character == c) (get nat_cmp old c) (first_given (take i given) c) h at (has c)))

-- what is looked up in such a map
pub index_of : (given : List GivenCompatibility) (indices : BTreeMap ℕ ℕ) (c : ℕ) (o : Option ℕ) → HasFirstIndices given indices → o ≡ get nat_cmp indices c
    → MatchOption o (first_given given c ≡ None) (λ index. (index < length given) × (first_given given c ≡ slice_get given index))
index_of given indices c o has is =
    subst (λ (p : Option ℕ). MatchOption p (first_given given c ≡ None) (λ index. (index < length given) × (first_given given c ≡ slice_get given index))) (sym is) (has c)

-- ---- Whether something is so of each element

pub each_more : {X : Type 0} (P : X → Type 0) (xs : List X) (i : ℕ) (x d : X) → i < length xs → ((k : ℕ) (e : X) → k < i → P (slice_index_or xs k e)) → P x → x ≡ get_or xs i d
    → (k : ℕ) (e : X) → k < i + 1 → P (slice_index_or xs k e)
each_more {X} P xs i x d within before here is k e less =
    ⊎_elim
    (λ (lower : k < i). before k e lower)
    (λ (upper : i ≤ k).
    let same : k ≡ i = omega (arith, upper, less) in
    subst (λ (j : ℕ). P (get_or xs j e)) (sym same) (subst P (is ∙ get_or_default xs i d e within) here))
    (cases_lt k i)

-- it isn't of one
pub one_isnt : {X : Type 0} (P : X → Type 0) (xs : List X) (i : ℕ) (x d : X) (test : Bool) → i < length xs → test ≡ false → (P x → test ≡ true) → x ≡ get_or xs i d → IsTrue false ↔ All P xs
one_isnt P xs i x d test within fails says is = (λ e. absurd (false≢true e), λ all. absurd (false≢true (sym fails ∙ says (subst P (sym is) (all i d within)))))

-- it is of each
pub each_is : {X : Type 0} (P : X → Type 0) (xs : List X) (i : ℕ) → length xs ≤ i → ((k : ℕ) (e : X) → k < i → P (slice_index_or xs k e)) → IsTrue true ↔ All P xs
each_is P xs i past all = (λ _ k e within. all k e (omega (arith, past, within)), λ _. refl)
