-- Mappings settled one after another over canonical data, until no more can be.
use Rattle.std.proofs.Common.{◌≡◌, ℕ, zero, suc, ◌+◌, ◌<◌, ◌≤◌, ◌⊎◌, inl, inr, ⊎_elim, Bool, true, false, ◌==◌, List, [], ◌∷◌, ◌++◌, length, take, drop, flat_map, set, slice_get, Option, Some, None, sym, ap, subst, ◌∙◌, arith}
use Rattle.std.specs.Prelude.{MatchOption}
use Rattle.std.specs.List.{All}
use Rattle.std.specs.Char.{IsScalar}
use Rattle.std.proofs.lemmas.Bool.{cases_eq, cases_lt, cond-true, eq-eqb}
use Rattle.std.proofs.lemmas.Grind.{flat_map-append}
use Rattle.std.proofs.lemmas.List.{append-nil}
use Rattle.std.proofs.lemmas.List.Elements.{All-append, All-head, All-tail}
use Rattle.std.proofs.lemmas.Option.{same_Some}
use Rattle.icu_normalizer_core.specs.declared.builder.given.GivenCompatibility.{GivenCompatibility}
use Rattle.icu_normalizer_core.specs.declared.canonical.check.left.Left.{Left}
use Rattle.icu_normalizer_core.specs.BuiltIn.{built_in_compatibility_step}
use Rattle.icu_normalizer_core.specs.Canonical.{Canonical, IsDecomposing, IsFree, Leaves, nothing, unmapped, mapped}
use Rattle.icu_normalizer_core.specs.CompatibilityMaps.{all_steps, first_given}
use Rattle.icu_normalizer_core.specs.GivenCompatibilities.{IsOfCharacters}
use Rattle.icu_normalizer_core.specs.Settled.{left_items, IsAmong, open_count}
use Rattle.icu_normalizer_core.specs.SettledMappings.{AreMappingStarts, AreOnStarters, HasOpen, IsAllSettled, IsOpenMapping, StartsLeft, mapping_at}
use Rattle.icu_normalizer_core.proofs.decomposed_lists.DecomposedLemmas.{left_full, left_mapped, left_one}
use Rattle.icu_normalizer_core.proofs.settling.LeftLemmas.{left_alone, left_append}
use Rattle.icu_normalizer_core.proofs.settling.SettledLemmas.{cut_joined}
use Rattle.icu_normalizer_core.proofs.settling.SettlingLemmas.{among_behind, among_front, got_other, got_same, none_inside, written_length, AreOpen}
use Rattle.icu_normalizer_core.proofs.building.AllStepLemmas.{all_first, all_scalars, all_second, cases_list, given_is, step_given}
use Rattle.icu_normalizer_core.proofs.building.MapNumberLemmas.{found_all}

-- ---- First nine characters

pub starts_alone : (step : ℕ → List ℕ) (c : ℕ) (left : Left) → step c ≡ [] → left_items left ≡ c ∷ [] → StartsLeft step (c ∷ []) left
starts_alone step c left none is = (c ∷ [], left_alone step c none, is)

pub starts_none : (step : ℕ → List ℕ) (left : Left) → left_items left ≡ [] → StartsLeft step [] left
starts_none step left is = ([], nothing, is)

pub starts_joined : (step : ℕ → List ℕ) (xs ys : List ℕ) (a b both : Left) → StartsLeft step xs a → StartsLeft step ys b
    → left_items both ≡ take 9 (left_items a ++ left_items b) → StartsLeft step (xs ++ ys) both
starts_joined step xs ys a b both s t is = (
  s.0 ++ t.0,
  left_append step xs ys s.0 t.0 s.1 t.1,
  is ∙ ap (λ (u : List ℕ). take 9 (u ++ left_items b)) s.2 ∙ ap (λ (u : List ℕ). take 9 (take 9 s.0 ++ u)) t.2 ∙ cut_joined s.0 t.0,
)

pub starts_mapped : (step : ℕ → List ℕ) (c : ℕ) (ds : List ℕ) (left : Left) → step c ≡ ds → 0 < length ds → StartsLeft step ds left → StartsLeft step (c ∷ []) left
starts_mapped step c [] left leads some s = absurd (omega arith)
starts_mapped step c (d ∷ ds) left leads some s = (
  s.0,
  mapped c d ds [] s.0 leads (subst (λ (t : List ℕ). Leaves step t s.0) (sym (append-nil (d ∷ ds))) s.1),
  s.2,
)

-- ---- Where no more can be settled, what is open has no end

among_split : (xs ys : List ℕ) (c : ℕ) → IsAmong (xs ++ ys) c → IsAmong xs c ⊎ IsAmong ys c
among_split [] ys c h = inr h
among_split (x ∷ xs) ys c (inl e) = inl (inl e)
among_split (x ∷ xs) ys c (inr h) = ⊎_elim (λ front. inl (inr front)) (λ behind. inr behind) (among_split xs ys c h)

none_among : (c x : ℕ) → IsAmong (c ∷ []) x → c ≡ x
none_among c x (inl e) = e
none_among c x (inr h) = absurd h

module _ (canonical : Canonical) (d : IsDecomposing canonical) (given : List GivenCompatibility) (chars : All IsOfCharacters given)
    (starters : AreOnStarters canonical.class given) (settled : List (Option Left)) (count : length settled ≡ length given)
    (done : IsAllSettled canonical.full given settled) where
  abbrev all : ℕ → List ℕ
  all = all_steps canonical.step given

  abbrev AnyOpen : List ℕ → Type 0
  AnyOpen text = HasOpen canonical.full given settled text

  open_mapping : (c : ℕ) → canonical.step c ≡ [] → IsOpenMapping given settled c → AnyOpen (all c)
  open_mapping c none (free, other, (index, inside, first, unsettled)) =
      let is : all c ≡ mapping_at given index = all_second canonical.step given c none ∙ step_given given c free other ∙ given_is given c (slice_get given index) first in
      subst AnyOpen (sym is) (done index (omega arith) unsettled)

  open_further : (c x : ℕ) → IsScalar c → IsAmong (canonical.full c) x → IsOpenMapping given settled x → AnyOpen (all c)
  open_further c x s among is =
      ⊎_elim
      (λ none.
      let alone : canonical.full c ≡ c ∷ [] = left_one canonical.step (c ∷ []) (canonical.full c) (c ∷ []) (d.ends c s) (left_alone canonical.step c none) in
      let here : c ≡ x = none_among c x (subst (λ (xs : List ℕ). IsAmong xs x) alone among) in
      open_mapping c none (subst (IsOpenMapping given settled) (sym here) is))
      (λ w.
      let y : ℕ = w.0 in
      let ys : List ℕ = w.1 in
      let parts : All IsScalar (y ∷ ys) = subst (All IsScalar) w.2 (d.scalars c s) in
      let left : Leaves canonical.step (y ∷ ys) (canonical.full c) =
      subst (λ (xs : List ℕ). Leaves canonical.step xs (canonical.full c)) (append-nil (y ∷ ys)) (left_mapped canonical.step c y ys [] (canonical.full c) w.2 (d.ends c s)) in
      let same : canonical.full c ≡ flat_map canonical.full (y ∷ ys) = left_one canonical.step (y ∷ ys) (canonical.full c) (flat_map canonical.full (y ∷ ys)) left (left_full canonical (y ∷ ys) d parts) in
      subst AnyOpen (sym (all_first canonical.step given c y ys w.2)) (x, subst (λ (xs : List ℕ). IsAmong xs x) same among, is))
      (cases_list (canonical.step c))

  open_front : (xs ys : List ℕ) → AnyOpen xs → AnyOpen (xs ++ ys)
  open_front xs ys o = (
    o.0,
    subst (λ (zs : List ℕ). IsAmong zs o.0) (sym (flat_map-append canonical.full xs ys)) (among_front (flat_map canonical.full xs) (flat_map canonical.full ys) o.0 o.1),
    o.2,
  )

  open_behind : (xs ys : List ℕ) → AnyOpen ys → AnyOpen (xs ++ ys)
  open_behind xs ys o = (
    o.0,
    subst (λ (zs : List ℕ). IsAmong zs o.0) (sym (flat_map-append canonical.full xs ys)) (among_behind (flat_map canonical.full xs) (flat_map canonical.full ys) o.0 o.1),
    o.2,
  )

  pub never_left : (text list : List ℕ) → All IsScalar text → Leaves all text list → AnyOpen text → ⊥
  never_left text list s nothing o = o.1
  never_left text list s (unmapped c cs ms e h) o =
      ⊎_elim
      (λ here. (subst AnyOpen e (open_further c o.0 (All-head IsScalar c cs s) here o.2)).1)
      (λ later. never_left cs ms (All-tail IsScalar c cs s) h (o.0, later, o.2))
      (among_split (canonical.full c) (flat_map canonical.full cs) o.0 o.1)
  never_left text list s (mapped c y ys cs ms e h) o =
      let head : IsScalar c = All-head IsScalar c cs s in
      let rest : All IsScalar cs = All-tail IsScalar c cs s in
      let scalars : All IsScalar ((y ∷ ys) ++ cs) =
      All-append IsScalar (y ∷ ys) cs (subst (All IsScalar) e (all_scalars canonical d given chars starters c head)) rest in
      ⊎_elim
      (λ here. never_left ((y ∷ ys) ++ cs) ms scalars h (open_front (y ∷ ys) cs (subst AnyOpen e (open_further c o.0 head here o.2))))
      (λ later. never_left ((y ∷ ys) ++ cs) ms scalars h (open_behind (y ∷ ys) cs (o.0, later, o.2)))
      (among_split (canonical.full c) (flat_map canonical.full cs) o.0 o.1)

-- ---- Steps of the code

pub mapping_is : (given : List GivenCompatibility) (index : ℕ) (g : GivenCompatibility) → slice_get given index ≡ Some g → mapping_at given index ≡ g.mapping.items
mapping_is given index g e = ap (λ (o : Option GivenCompatibility). elim o [ Some h ↦ h.mapping.items | None ↦ [] ]) e

pub first_dropped : (given : List GivenCompatibility) (index c : ℕ) (g : GivenCompatibility) → slice_get given index ≡ Some g → g.character ≡ c
    → first_given (drop index given) c ≡ Some g
first_dropped [] index c g e is = absurd cc
first_dropped (h ∷ hs) zero c g e is =
    let same : h ≡ g = same_Some h g e in
    cond-true (h.character == c) (Some h) (first_given hs c) (eq-eqb h.character c (ap (λ (x : GivenCompatibility). x.character) same ∙ is)) ∙ e
first_dropped (h ∷ hs) (suc index) c g e is = first_dropped hs index c g e is

-- of a given mapping, settled or not
pub mapping_found : (step : ℕ → List ℕ) (given : List GivenCompatibility) (chars : All IsOfCharacters given) (settled : List (Option Left)) (c index : ℕ) (o : Option Left)
    → AreMappingStarts (all_steps step given) given settled → step c ≡ [] → IsFree c → built_in_compatibility_step c ≡ None
    → index < length given → first_given given c ≡ slice_get given index → slice_get settled index ≡ Some o
    → MatchOption o (IsOpenMapping given settled c) (StartsLeft (all_steps step given) (c ∷ []))
mapping_found step given chars settled c index None starts none free other inside first here = (free, other, (index, inside, first, here))
mapping_found step given chars settled c index (Some left) starts none free other inside first here =
    let is : all_steps step given c ≡ mapping_at given index = all_second step given c none ∙ step_given given c free other ∙ given_is given c (slice_get given index) first in
    starts_mapped (all_steps step given) c (mapping_at given index) left is (by (slice_get given index) first) (starts.each index left here)
  where
    by : (o : Option GivenCompatibility) → first_given given c ≡ o → 0 < length {A = ℕ} (elim o [ Some g ↦ g.mapping.items | None ↦ [] ])
    by None e = absurd (none_inside given index inside (sym first ∙ e))
    by (Some g) e = (found_all IsOfCharacters (λ h. h.character == c) given g chars e).some

-- one more mapping is settled
pub mapping_written : (step : ℕ → List ℕ) (given : List GivenCompatibility) (settled : List (Option Left)) (i : ℕ) (left : Left) → i < length given
    → AreMappingStarts step given settled → StartsLeft step (mapping_at given i) left → AreMappingStarts step given (set settled i (Some left))
mapping_written step given settled i left h starts s = record {
  count = written_length settled i (Some left) ∙ starts.count;
  each = λ j other e.
      ⊎_elim
      (λ same.
      let inside : i < length settled = let n = starts.count in omega arith in
      let here : slice_get (set settled i (Some left)) i ≡ Some (Some other) = subst (λ (k : ℕ). slice_get (set settled i (Some left)) k ≡ Some (Some other)) same e in
      let is : left ≡ other = same_Some left other (same_Some (Some left) (Some other) (sym (got_same settled i (Some left) inside) ∙ here)) in
      subst (λ (k : ℕ). StartsLeft step (mapping_at given k) other) (sym same) (subst (StartsLeft step (mapping_at given i)) is s))
      (λ ne. starts.each j other (sym (got_other settled i j (Some left) ne) ∙ e))
      (cases_eq j i);
}

-- one more mapping is looked at: it was settled, and fewer are open
pub record HasSettled (full step : ℕ → List ℕ) (given : List GivenCompatibility) (initial settled : List (Option Left)) (more : Bool) (index : ℕ) : Type 0 where
  pub starts : AreMappingStarts step given settled
  pub most : open_count settled ≤ open_count initial
  pub progress : more ≡ true → open_count settled < open_count initial
  pub done : more ≡ false → (i : ℕ) → i < index → slice_get settled i ≡ Some None → HasOpen full given settled (mapping_at given i)

pub settled_more : (full step : ℕ → List ℕ) (given : List GivenCompatibility) (initial old new : List (Option Left)) (more after : Bool) (index : ℕ)
    → HasSettled full step given initial old more index → AreMappingStarts step given new → open_count new < open_count old → after ≡ true
    → HasSettled full step given initial new after (index + 1)
settled_more full step given initial old new more after index p starts fewer is =
    let most = p.most in
    record {
      starts = starts;
      most = omega arith;
      progress = λ happened. omega arith;
      done = λ none. let off : true ≡ false = sym is ∙ none in absurd cc;
    }

-- or it stays as it was, and can't be settled now
pub settled_none : (full step : ℕ → List ℕ) (given : List GivenCompatibility) (initial old new : List (Option Left)) (more after : Bool) (index : ℕ)
    → HasSettled full step given initial old more index → AreMappingStarts step given new → new ≡ old
    → (slice_get new index ≡ Some None → HasOpen full given new (mapping_at given index)) → after ≡ more → HasSettled full step given initial new after (index + 1)
settled_none full step given initial old new more after index p starts same stuck is =
    record {
      starts = starts;
      most = subst (λ (xs : List (Option Left)). open_count xs ≤ open_count initial) (sym same) p.most;
      progress = λ happened. subst (λ (xs : List (Option Left)). open_count xs < open_count initial) (sym same) (p.progress (sym is ∙ happened));
      done = λ none i h e. ⊎_elim
          (λ before. subst (λ (xs : List (Option Left)). HasOpen full given xs (mapping_at given i)) (sym same)
          (p.done (sym is ∙ none) i before (subst (λ (xs : List (Option Left)). slice_get xs i ≡ Some None) same e)))
          (λ here.
          let at : i ≡ index = omega arith in
          subst (λ (k : ℕ). HasOpen full given new (mapping_at given k)) (sym at) (stuck (subst (λ (k : ℕ). slice_get new k ≡ Some None) at e)))
          (cases_lt i index);
    }

-- mappings of which none is settled
pub open_mappings : (step : ℕ → List ℕ) (given : List GivenCompatibility) (settled : List (Option Left)) (count : ℕ) → AreOpen settled count → count ≡ length given
    → AreMappingStarts step given settled
open_mappings step given settled count o e = record { count = o.length ∙ e; each = λ i left is. absurd (o.none i left is) }
