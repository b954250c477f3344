-- What steps leave of characters and of mappings, over sound mappings.
use Rattle.std.proofs.Common.{◌≡◌, ℕ, zero, suc, ◌+◌, ◌<◌, inl, true, false, List, [], ◌∷◌, ◌++◌, length, take, flat_map, slice_index, slice_get, Option, Some, None, refl, sym, ap, subst, ◌∙◌, arith, append_assoc}
use Rattle.std.specs.Prelude.{MatchOption, option_map}
use Rattle.std.specs.Option.{is_some}
use Rattle.std.specs.List.{All}
use Rattle.std.specs.Char.{IsScalar}
use Rattle.std.proofs.lemmas.List.{append-nil, take_more}
use Rattle.std.proofs.lemmas.List.Elements.{All-cons, All-nil}
use Rattle.icu_normalizer_core.specs.declared.builder.mappings.Mappings.{Mappings}
use Rattle.icu_normalizer_core.specs.declared.canonical.check.left.Left.{Left}
use Rattle.icu_normalizer_core.specs.declared.decomposed.Decomposed.{Decomposed}
use Rattle.icu_normalizer_core.specs.BuiltIn.{built_in_compatibility_step, built_in_step}
use Rattle.icu_normalizer_core.specs.Canonical.{Canonical, IsDecomposing, IsFree, Leaves}
use Rattle.icu_normalizer_core.specs.CanonicalMeaning.{lists_of, meaning}
use Rattle.icu_normalizer_core.specs.CompatibilityMaps.{first_given}
use Rattle.icu_normalizer_core.specs.Properties.{mapped_to}
use Rattle.icu_normalizer_core.specs.Settled.{left_items, IsAmong}
use Rattle.icu_normalizer_core.specs.SettledMappings.{AreMappingStarts, HasOpen, IsAllSettled, IsOpenMapping, IsSound, StartsLeft, steps_in}
use Rattle.icu_normalizer_core.proofs.accepted.AcceptedPairs.{canonical}
use Rattle.icu_normalizer_core.proofs.settling.LeftLemmas.{AreUnmapped, unmapped_at, unmapped_left}
use Rattle.icu_normalizer_core.proofs.settling.SettlingLemmas.{among_behind, among_front}
use Rattle.icu_normalizer_core.proofs.building.AllStepLemmas.{all_first, all_second, compatible, given_is, left_through, marks_unmapped, scalars_left, step_apart, step_fixed, step_given}
use Rattle.icu_normalizer_core.proofs.building.SettledMappingLemmas.{mapping_found, never_left, starts_alone, starts_joined, starts_mapped, starts_none}

-- ---- What is built in, as the code tells it

pub some_mapped : (o : Option Decomposed) (x : Option (List ℕ)) → option_map mapped_to o ≡ x → is_some o ≡ true → (ds : List ℕ) × (x ≡ Some ds)
some_mapped (Some s) x e is = (mapped_to s, sym e)
some_mapped None x e is = absurd cc

pub none_mapped : (o : Option Decomposed) (x : Option (List ℕ)) → option_map mapped_to o ≡ x → is_some o ≡ false → x ≡ None
none_mapped None x e is = sym e
none_mapped (Some s) x e is = absurd cc

module _ (over : Mappings) (sound : IsSound over) where
  abbrev base : Canonical
  base = meaning over.tables.now

  pub decomposing : IsDecomposing base
  decomposing = (canonical (lists_of over.tables.now) sound.accepted).decomposing

  pub full_scalars : (c : ℕ) → IsScalar c → All IsScalar (base.full c)
  full_scalars c s = scalars_left base.step (c ∷ []) (base.full c) decomposing.scalars (All-cons IsScalar c [] s (All-nil IsScalar)) (decomposing.ends c s)

  -- ---- One character without a canonical mapping

  pub fixed_left : (c : ℕ) (ds : List ℕ) (left : Left) → base.step c ≡ [] → built_in_compatibility_step c ≡ Some ds → left_items left ≡ ds
      → StartsLeft (steps_in over) (c ∷ []) left
  fixed_left c ds left none e is =
      let k = compatible c ds e in
      let alone = marks_unmapped base decomposing over.given.now sound.given sound.starters k.mark 8 k.mark_class (omega arith) k.mark_free in
      starts_mapped (steps_in over) c (k.mark ∷ []) left (all_second base.step over.given.now c none ∙ step_fixed over.given.now c ds e ∙ k.is) (omega arith)
      (starts_alone (steps_in over) k.mark left alone (is ∙ k.is))

  pub apart_left : (c : ℕ) (ds : List ℕ) (left : Left) → base.step c ≡ [] → built_in_step c ≡ Some ds → left_items left ≡ c ∷ []
      → StartsLeft (steps_in over) (c ∷ []) left
  apart_left c ds left none e is = starts_alone (steps_in over) c left (all_second base.step over.given.now c none ∙ step_apart over.given.now c ds e) is

  pub ungiven_left : (c : ℕ) (left : Left) → base.step c ≡ [] → IsFree c → built_in_compatibility_step c ≡ None → first_given over.given.now c ≡ None → left_items left ≡ c ∷ []
      → StartsLeft (steps_in over) (c ∷ []) left
  ungiven_left c left none free other e is =
      starts_alone (steps_in over) c left (all_second base.step over.given.now c none ∙ step_given over.given.now c free other ∙ given_is over.given.now c None e) is

  pub found_left : (settled : List (Option Left)) (c index : ℕ) (o : Option Left) → AreMappingStarts (steps_in over) over.given.now settled → base.step c ≡ []
      → IsFree c → built_in_compatibility_step c ≡ None → index < length over.given.now → first_given over.given.now c ≡ slice_get over.given.now index
      → slice_get settled index ≡ Some o → MatchOption o (IsOpenMapping over.given.now settled c) (StartsLeft (steps_in over) (c ∷ []))
  found_left settled c index o starts none free other inside first here =
      mapping_found base.step over.given.now sound.given settled c index o starts none free other inside first here

  -- ---- The characters of a canonical full list, read from the front

  pub record IsRead (c : ℕ) (left : Left) (rest : List ℕ) : Type 0 where
    pub done : List ℕ
    pub whole : base.full c ≡ done ++ rest
    pub starts : StartsLeft (steps_in over) done left

  pub read_first : (c : ℕ) (left : Left) (list : List ℕ) → list ≡ base.full c → left_items left ≡ [] → IsRead c left list
  read_first c left list e none = record { done = []; whole = sym e; starts = starts_none (steps_in over) left none }

  pub read_unmapped : (c x : ℕ) (left : Left) (before rest : List ℕ) → IsScalar c → IsRead c left before → before ≡ x ∷ rest → base.step x ≡ []
  read_unmapped c x left before rest s r e =
      unmapped_at base.step r.done x rest
      (subst (AreUnmapped base.step) (r.whole ∙ ap (λ (t : List ℕ). r.done ++ t) e) (unmapped_left base.step (c ∷ []) (base.full c) (decomposing.ends c s)))

  pub read_more : (c x : ℕ) (left more new : Left) (before rest : List ℕ) → IsRead c left before → before ≡ x ∷ rest → StartsLeft (steps_in over) (x ∷ []) more
      → left_items new ≡ take 9 (left_items left ++ left_items more) → IsRead c new rest
  read_more c x left more new before rest r e s is = record {
    done = r.done ++ x ∷ [];
    whole = r.whole ∙ ap (λ (t : List ℕ). r.done ++ t) e ∙ sym (append_assoc r.done (x ∷ []) rest);
    starts = starts_joined (steps_in over) r.done (x ∷ []) left more new r.starts s is;
  }

  pub read_all : (c : ℕ) (left : Left) (rest : List ℕ) → IsScalar c → IsRead c left rest → rest ≡ [] → StartsLeft (steps_in over) (c ∷ []) left
  read_all c left rest s r none =
      let whole : base.full c ≡ r.done = r.whole ∙ ap (λ (t : List ℕ). r.done ++ t) none ∙ append-nil r.done in
      let left = subst (λ (t : List ℕ). Leaves (steps_in over) t r.starts.0) (sym whole) r.starts.1 in
      (r.starts.0, left_through base.step (steps_in over) (c ∷ []) (base.full c) r.starts.0 (all_first base.step over.given.now) (decomposing.ends c s) left, r.starts.2)

  pub read_open : (settled : List (Option Left)) (c x : ℕ) (left : Left) (before rest : List ℕ) → IsRead c left before → before ≡ x ∷ rest
      → IsOpenMapping over.given.now settled x → HasOpen base.full over.given.now settled (c ∷ [])
  read_open settled c x left before rest r e o = (
    x,
    subst (λ (t : List ℕ). IsAmong t x) (sym (append-nil (base.full c)))
        (subst (λ (t : List ℕ). IsAmong t x) (sym (r.whole ∙ ap (λ (t : List ℕ). r.done ++ t) e)) (among_behind r.done (x ∷ rest) x (inl refl))),
    o,
  )

  -- ---- The characters of a mapping

  pub open_item : (settled : List (Option Left)) (text : List ℕ) (i : ℕ) → i < length text → HasOpen base.full over.given.now settled (slice_index text i ∷ [])
      → HasOpen base.full over.given.now settled text
  open_item settled [] i h o = absurd (omega arith)
  open_item settled (y ∷ ys) zero h o = (
    o.0,
    among_front (base.full y) (flat_map base.full ys) o.0 (subst (λ (t : List ℕ). IsAmong t o.0) (append-nil (base.full y)) o.1),
    o.2,
  )
  open_item settled (y ∷ ys) (suc i) h o =
      let later = open_item settled ys i (omega arith) o in
      (later.0, among_behind (base.full y) (flat_map base.full ys) later.0 later.1, later.2)

  pub item_more : (text : List ℕ) (i c : ℕ) (left more new : Left) → i < length text → slice_index text i ≡ c → StartsLeft (steps_in over) (take i text) left
      → StartsLeft (steps_in over) (c ∷ []) more → left_items new ≡ take 9 (left_items left ++ left_items more) → StartsLeft (steps_in over) (take (i + 1) text) new
  item_more text i c left more new h at s t is =
      subst (λ (xs : List ℕ). StartsLeft (steps_in over) xs new) (sym (take_more text i 0 h ∙ ap (λ (x : ℕ). take i text ++ x ∷ []) at))
      (starts_joined (steps_in over) (take i text) (c ∷ []) left more new s t is)

  -- ---- Characters of which steps don't end

  pub open_endless : (settled : List (Option Left)) (c : ℕ) (list : List ℕ) → AreMappingStarts (steps_in over) over.given.now settled
      → IsAllSettled base.full over.given.now settled → IsScalar c → HasOpen base.full over.given.now settled (c ∷ []) → Leaves (steps_in over) (c ∷ []) list → ⊥
  open_endless settled c list starts done s o leaves =
      never_left base decomposing over.given.now sound.given sound.starters settled starts.count done (c ∷ []) list (All-cons IsScalar c [] s (All-nil IsScalar)) leaves o
