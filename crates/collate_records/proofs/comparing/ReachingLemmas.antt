-- What a text reaches is what at most so many steps bring in for its characters, one after another.
use Rattle.std.proofs.Common.{◌≡◌, ℕ, zero, suc, ◌-◌, ◌<◌, ⊎_elim, List, [], ◌∷◌, ◌++◌, flat_map, Bool, true, refl, sym, ap, ◌∙◌, subst, arith}
use Rattle.std.specs.Char.{IsScalar}
use Rattle.std.specs.List.{All, AllByRecursion, Contains}
use Rattle.std.proofs.lemmas.List.Elements.{All-contains, All-from_recursion, All-head, recursion_from_All, Contains-append_left, Contains-push, Contains-push_cases}
use Rattle.icu_normalizer_core.specs.Canonical.{Canonical, IsDecomposing, Reaches, stands, steps}
use Rattle.icu_normalizer_core.proofs.decomposed_lists.DecomposedLemmas.{AreUnmapped, all_append, unmapped_left}
use Rattle.collate_lines.specs.Record.{Record}
use Rattle.collate_rules.specs.Meaning.{canonical_of, expanded, step_of}
use Rattle.collate_records.specs.Reaching.{brought_within, ReachesOne}

Contains-first : (c : ℕ) (cs : List ℕ) → Contains (c ∷ cs) c
Contains-first c cs = Contains-append_left (c ∷ []) cs c (Contains-push [] c)

-- what is reached from a text is reached from one of its characters
pub record IsReachedFrom (step : ℕ → List ℕ) (text : List ℕ) (d : ℕ) : Type 0 where
  pub start : ℕ
  pub stands_in : Contains text start
  pub reached : Reaches step (start ∷ []) d

from_one : (step : ℕ → List ℕ) (text : List ℕ) (d : ℕ) → Reaches step text d → IsReachedFrom step text d
from_one step text d (stands t c h) = record { start = c; stands_in = h; reached = stands (c ∷ []) c (Contains-first c []) }
from_one step text d (steps t c e h r) = record { start = c; stands_in = h; reached = steps (c ∷ []) c e (Contains-first c []) r }

single : (d x : ℕ) → Contains (d ∷ []) x → d ≡ x
single d x h = ⊎_elim (λ none. absurd (omega (arith, none.1))) (λ same. same) (Contains-push_cases [] d x h)

-- what is reached from a text that has more
reached_from_more : (step : ℕ → List ℕ) (s t : List ℕ) (e : ℕ) → ((d : ℕ) → Contains s d → Contains t d) → Reaches step s e → Reaches step t e
reached_from_more step s t e more (stands u d h) = stands t d (more d h)
reached_from_more step s t e more (steps u d x h r) = steps t d x (more d h) r

of_character : (step : ℕ → List ℕ) (text : List ℕ) (d e : ℕ) → Contains text d → Reaches step (d ∷ []) e → Reaches step text e
of_character step text d e h r = reached_from_more step (d ∷ []) text e (λ x k. subst (Contains text) (single d x k) h) r

-- ---- a test that says yes

module _ (step : ℕ → List ℕ) (answers : ℕ → Bool → Type 0) where
  pub one_itself : (c : ℕ) → answers c true → ReachesOne step answers (c ∷ [])
  one_itself c passes = (c, stands (c ∷ []) c (Contains-first c []), passes)

  pub one_of_text : (text : List ℕ) (c : ℕ) → Contains text c → ReachesOne step answers (c ∷ []) → ReachesOne step answers text
  one_of_text text c h one = (one.0, of_character step text c one.0 h one.1, one.2)

  pub one_further : (c d : ℕ) (ds : List ℕ) → step c ≡ ds → Contains ds d → ReachesOne step answers (d ∷ []) → ReachesOne step answers (c ∷ [])
  one_further c d ds e h one =
      (one.0, steps (c ∷ []) c one.0 (Contains-first c []) (of_character step (step c) d one.0 (subst (λ xs. Contains xs d) (sym e) h) one.1), one.2)

  pub one_first : (c d : ℕ) (ds : List ℕ) → step c ≡ d ∷ ds → ReachesOne step answers (d ∷ []) → ReachesOne step answers (c ∷ [])
  one_first c d ds e one = one_further c d (d ∷ ds) e (Contains-first d ds) one

  pub one_second : (c d e : ℕ) → step c ≡ d ∷ e ∷ [] → ReachesOne step answers (e ∷ []) → ReachesOne step answers (c ∷ [])
  one_second c d e is one = one_further c e (d ∷ e ∷ []) is (Contains-push (d ∷ []) e) one

-- ---- a test that says no

module _ (step : ℕ → List ℕ) (Q : ℕ → Type 0) where
  abbrev Within : ℕ → ℕ → Type 0
  Within n c = All Q (brought_within step n c)

  flat : (n : ℕ) (ds : List ℕ) → AllByRecursion (Within n) ds → AllByRecursion Q (flat_map (brought_within step n) ds)
  flat n [] h = tt
  flat n (d ∷ ds) h = all_append Q (brought_within step n d) (flat_map (brought_within step n) ds) (recursion_from_All Q (brought_within step n d) h.0) (flat n ds h.1)

  one_more : (n c : ℕ) (ds : List ℕ) → step c ≡ ds → Q c → AllByRecursion (Within n) ds → Within (suc n) c
  unfolding brought_within
  one_more n c ds e fails h =
      All-from_recursion Q (c ∷ flat_map (brought_within step n) (step c)) (fails, subst (λ xs. AllByRecursion Q (flat_map (brought_within step n) xs)) (sym e) (flat n ds h))

  pub none_last : (c : ℕ) → Q c → Within 0 c
  unfolding brought_within
  none_last c fails = All-from_recursion Q (c ∷ []) (fails, tt)

  pub none_more : (n c : ℕ) (ds : List ℕ) → 0 < n → step c ≡ ds → Q c → AllByRecursion (Within (n - 1)) ds → Within n c
  none_more zero c ds above e fails h = absurd (omega arith)
  none_more (suc n) c ds above e fails h =
      let less : suc n - 1 ≡ n = omega arith in one_more n c ds e fails (subst (λ k. AllByRecursion (Within k) ds) less h)

-- ---- steps end

-- where steps leave only what isn't mapped, at most so many bring in all that is reached
parts_unmapped : (canonical : Canonical) (f : ℕ → List ℕ) (ds : List ℕ) → AreUnmapped canonical (flat_map f ds) → AllByRecursion (λ d. AreUnmapped canonical (f d)) ds
parts_unmapped canonical f [] h = tt
parts_unmapped canonical f (d ∷ ds) h =
    let parts = split (f d) (flat_map f ds) h in (parts.0, parts_unmapped canonical f ds parts.1)
  where
    split : (xs ys : List ℕ) → AreUnmapped canonical (xs ++ ys) → AreUnmapped canonical xs × AreUnmapped canonical ys
    split [] ys k = (tt, k)
    split (x ∷ xs) ys k = let rest = split xs ys k.1 in ((k.0, rest.0), rest.1)

split : {X : Type 0} (P : X → Type 0) (xs ys : List X) → AllByRecursion P (xs ++ ys) → AllByRecursion P xs × AllByRecursion P ys
split P [] ys h = (tt, h)
split P (x ∷ xs) ys h = let rest = split P xs ys h.1 in ((h.0, rest.0), rest.1)

module _ (canonical : Canonical) (Q : ℕ → Type 0) where
  abbrev step : ℕ → List ℕ
  step = canonical.step

  abbrev Every : ℕ → Type 0
  Every c = (d : ℕ) → Reaches step (c ∷ []) d → Q d

  -- what is reached from a character is itself, or is reached from its mapping
  first_or_further : (c d : ℕ) (ds : List ℕ) → step c ≡ ds → Q c → AllByRecursion Every ds → Reaches step (c ∷ []) d → Q d
  first_or_further c d ds e fails each r = by (c ∷ []) d refl r
    where
      further : (es : List ℕ) → AllByRecursion Every es → (x : ℕ) → IsReachedFrom step es x → Q x
      further es h x r = All-contains Every es r.start (All-from_recursion Every es h) r.stands_in x r.reached

      by : (t : List ℕ) (x : ℕ) → t ≡ c ∷ [] → Reaches step t x → Q x
      by t x same (stands u y h) = subst Q (single c y (subst (λ l. Contains l y) same h)) fails
      by t x same (steps u y z h q) =
          let here : c ≡ y = single c y (subst (λ l. Contains l y) same h)
          in further ds each z (from_one step ds z (subst (λ l. Reaches step l z) (ap step (sym here) ∙ e) q))

  every_within : (n c : ℕ) → AreUnmapped canonical (expanded step n c) → All Q (brought_within step n c) → Every c
  unfolding expanded brought_within
  every_within zero c h none = λ d r. first_or_further c d [] h.0 (All-head Q c [] none) tt r
  every_within (suc n) c h none = by (every_within n) (step c) refl h (recursion_from_All Q (c ∷ flat_map (brought_within step n) (step c)) none)
    where
      each : ((d : ℕ) → AreUnmapped canonical (expanded step n d) → All Q (brought_within step n d) → Every d)
          → (ds : List ℕ) → AllByRecursion (λ d. AreUnmapped canonical (expanded step n d)) ds → AllByRecursion Q (flat_map (brought_within step n) ds) → AllByRecursion Every ds
      each fewer [] u q = tt
      each fewer (d ∷ ds) u q =
          let parts = split Q (brought_within step n d) (flat_map (brought_within step n) ds) q
          in (fewer d u.0 (All-from_recursion Q (brought_within step n d) parts.0), each fewer ds u.1 parts.1)

      by : ((d : ℕ) → AreUnmapped canonical (expanded step n d) → All Q (brought_within step n d) → Every d)
          → (ds : List ℕ) → step c ≡ ds → AreUnmapped canonical (elim ds as (λ _. List ℕ) [ [] ↦ c ∷ [] | d ∷ es ↦ flat_map (expanded step n) (d ∷ es) ])
          → AllByRecursion Q (c ∷ flat_map (brought_within step n) ds) → Every c
      by fewer [] e u q = λ d r. first_or_further c d [] e q.0 tt r
      by fewer (x ∷ xs) e u q = λ d r. first_or_further c d (x ∷ xs) e q.0 (each fewer (x ∷ xs) (parts_unmapped canonical (expanded step n) (x ∷ xs) u) q.1) r

-- no character that a text reaches passes, if none passes of those that so many steps bring in for its characters
pub none_of_text : (records : List Record) (Q : ℕ → Type 0) (text : List ℕ) → IsDecomposing (canonical_of records) → All IsScalar text
    → All (λ c. All Q (brought_within (step_of records) 0x110000 c)) text → (d : ℕ) → Reaches (step_of records) text d → Q d
none_of_text records Q text decomposing scalars each d r =
    let canonical = canonical_of records
    in let from = from_one (step_of records) text d r
    in let leaves = decomposing.ends from.start (All-contains IsScalar text from.start scalars from.stands_in)
    in every_within canonical Q 0x110000 from.start (unmapped_left canonical (from.start ∷ []) (expanded (step_of records) 0x110000 from.start) leaves)
    (All-contains (λ c. All Q (brought_within (step_of records) 0x110000 c)) text from.start each from.stands_in) d from.reached

-- what holds of each of a list, and of one more
pub all_push : (P : ℕ → Type 0) (xs : List ℕ) (x : ℕ) → All P xs → P x → All P (xs ++ x ∷ [])
all_push P xs x h p = All-from_recursion P (xs ++ x ∷ []) (all_append P xs (x ∷ []) (recursion_from_All P xs h) (p, tt))
