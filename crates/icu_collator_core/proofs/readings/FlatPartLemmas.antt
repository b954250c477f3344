-- Characters of a full list that were pushed one after another.
use Rattle.std.proofs.Common.{◌≡◌, ℕ, List, [], ◌∷◌, ◌++◌, ◌≤◌, length, arith, Contains, Option, refl, sym, ◌∙◌, ap, subst, append_assoc, append-nil}
use Rattle.std.proofs.lemmas.List.Elements.{Contains-append_left, Contains-push}
use Rattle.std.specs.Char.{IsScalar}
use Rattle.icu_normalizer_core.specs.Canonical.{Canonical, IsCanonical}
use Rattle.icu_normalizer_core.proofs.decomposed_lists.FormingLemmas.{forming_canonical}
use Rattle.icu_collator_core.specs.Acceptance.{CollationSource}
use Rattle.icu_collator_core.specs.FlatNotes.{AreReadFlat, IsPushed, MayStandBehind, StandInOrder, last_class}
use Rattle.icu_collator_core.specs.ReadSources.{canonical_by}
use Rattle.icu_collator_core.proofs.readings.FlatOrderLemmas.{last_appended, order_appended}
use Rattle.icu_collator_core.proofs.readings.FlatReadLemmas.{flat_before, flat_scalars}

-- a character of a full list is its own
pub own_part : (canonical : Canonical) (c d : ℕ) (before behind rest : List ℕ) → IsCanonical canonical → IsScalar c
    → before ++ rest ≡ canonical.full c → rest ≡ d ∷ behind → canonical.full d ≡ d ∷ []
own_part canonical c d before behind rest ok scalar all next =
    let whole = append_assoc before (d ∷ []) behind ∙ ap (λ (l : List ℕ). before ++ l) (sym next) ∙ all in
    (forming_canonical canonical ok).own c d scalar
    (subst (λ (l : List ℕ). Contains l d) whole (Contains-append_left (before ++ d ∷ []) behind d (Contains-push before d)))

module _ (source : CollationSource) (numeric : Option ℕ) where
  abbrev class : ℕ → ℕ
  class = (canonical_by source).class

  abbrev full : ℕ → List ℕ
  full = (canonical_by source).full

  -- these characters of a full list, each read alone, were pushed after a character of a class; the last has this one
  pub record ArePushed (before : ℕ) (old parts : List ℕ) (last : ℕ) (new : List ℕ) : Type 0 where
    pub items : List ℕ
    pub read : AreReadFlat source numeric parts items
    pub follows : MayStandBehind source numeric before parts
    pub order : StandInOrder class before parts
    pub last_is : last_class class before parts ≡ last
    pub appended : new ≡ old ++ items

  pub none_pushed : (before : ℕ) (old : List ℕ) → ArePushed before old [] before old
  none_pushed before old = record { items = []; read = tt; follows = tt; order = tt; last_is = refl; appended = sym (append-nil old) }

  read_joined : (xs is ys js : List ℕ) → AreReadFlat source numeric xs is → AreReadFlat source numeric ys js → AreReadFlat source numeric (xs ++ ys) (is ++ js)
  read_joined [] [] ys js h g = g
  read_joined [] (i ∷ is) ys js h g = absurd h
  read_joined (x ∷ xs) [] ys js h g = absurd h
  read_joined (x ∷ xs) (i ∷ is) ys js h g = (h.0, read_joined xs is ys js h.1 g)

  follows_joined : (before : ℕ) (parts : List ℕ) (d : ℕ) → MayStandBehind source numeric before parts
      → MayStandBehind source numeric (last_class class before parts) (d ∷ []) → MayStandBehind source numeric before (parts ++ d ∷ [])
  follows_joined before [] d h g = g
  follows_joined before (p ∷ ps) d h g = h

  pub part_pushed : (before : ℕ) (old parts : List ℕ) (last : ℕ) (now : List ℕ) (d is : ℕ) (new : List ℕ) → ArePushed before old parts last now → full d ≡ d ∷ []
      → is ≤ 255 → IsPushed source numeric d last now is new → ArePushed before old (parts ++ d ∷ []) is new
  part_pushed before old parts last now d is new h own small pushed =
      let flat = pushed.flat in
      let single : flat.first ∷ flat.rest ≡ d ∷ [] = sym flat.full ∙ own in
      let follows = subst (λ (l : List ℕ). MayStandBehind source numeric last l) single flat.follows in
      let order = subst (λ (l : List ℕ). StandInOrder class last l) single flat.order in
      record {
        items = h.items ++ pushed.items;
        read = read_joined parts h.items (d ∷ []) pushed.items h.read (subst (λ (l : List ℕ). AreReadFlat source numeric l pushed.items) single (flat.alone small));
        follows = follows_joined before parts d h.follows (subst (λ (k : ℕ). MayStandBehind source numeric k (d ∷ [])) (sym h.last_is) follows);
        order = order_appended class before parts (d ∷ []) h.order (subst (λ (k : ℕ). StandInOrder class k (d ∷ [])) (sym h.last_is) order);
        last_is = last_appended class before parts (d ∷ []) ∙ ap (λ k. last_class class k (d ∷ [])) h.last_is
            ∙ subst (λ (l : List ℕ). last_class class last l ≡ is) single (flat.last small);
        appended = pushed.appended ∙ ap (λ (l : List ℕ). l ++ pushed.items) h.appended ∙ append_assoc old h.items pushed.items;
      }

  pub all_pushed : (c before : ℕ) (old parts : List ℕ) (last : ℕ) (new : List ℕ) → 1 ≤ length (full c) → full c ≡ parts → ArePushed before old parts last new
      → IsPushed source numeric c before old last new
  all_pushed c before old [] last new some is h = let none = ap (λ (l : List ℕ). length l) is in absurd (omega (arith, some, none))
  all_pushed c before old (p ∷ ps) last new some is h =
      record {
        items = h.items;
        flat = record {
          first = p;
          rest = ps;
          full = is;
          characters = flat_scalars source numeric (p ∷ ps) h.items h.read;
          follows = h.follows;
          order = h.order;
          last = λ small. h.last_is;
          alone = λ small. h.read;
          read = flat_before source numeric (p ∷ ps) h.items last h.read;
        };
        appended = h.appended;
      }
