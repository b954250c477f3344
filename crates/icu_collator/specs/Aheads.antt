-- Texts that are read with a look at the next character: what was read, what is left, and which primaries come next.
use Rattle.std.specs.Prelude.{◌≡◌, ℕ, Bool, cond, false, true, List, ◌∷◌, ◌++◌, [], flat_map, Option, Some, None}
use Rattle.icu_normalizer_core.specs.Iter.{Spells}
use Rattle.icu_collator_core.specs.Acceptance.{CollationSource}
use Rattle.icu_collator_core.specs.ElementLists.{unpacked}
use Rattle.icu_collator_core.specs.ElementTexts.{text_elements}
use Rattle.icu_collator_core.specs.FlatNotes.{IsReadInOrder}
use Rattle.icu_collator_core.specs.ReadSources.{canonical_by}
use Rattle.icu_collator_core.specs.declared.flat.primaries.NextPrimaries.{NextPrimaries}
use Rattle.icu_collator_core.specs.declared.flat.steps.FlatStep.{FlatStep}
use Rattle.icu_collator_core.specs.declared.flat.steps.FlatStep.TheVariants.{Primary, End, Other}
use Rattle.icu_collator.specs.FlatOrders.{counted_primaries, does_count}

-- what is left of a text: a character, if one was taken, and after it what an iterator gives
abbrev pub IsLeft : {I : Type 0} → (I → Option ℕ → I → Type 0) → Option ℕ → I → List ℕ → Type 0
IsLeft steps None chars rest = Spells steps chars rest
IsLeft steps (Some c) chars rest = (more : List ℕ) × (rest ≡ c ∷ more) × Spells steps chars more

-- Of a text, the full lists of its first characters are in order and have these elements, where what follows may stand after
-- this class. The characters after are left.
pub record IsReadAhead {I : Type 0} (source : CollationSource) (numeric : Option ℕ) (steps : I → Option ℕ → I → Type 0) (text : List ℕ) (held : Option ℕ) (chars : I) (class : ℕ) (items : List ℕ) : Type 0 where
  pub list : List ℕ
  pub rest : List ℕ
  pub text_is : flat_map (canonical_by source).full text ≡ list ++ flat_map (canonical_by source).full rest
  pub left : IsLeft steps held chars rest
  pub read : IsReadInOrder source numeric list class items

-- a primary, if it counts
abbrev pub counted_if : ℕ → ℕ → List ℕ
counted_if end p = cond (does_count end p) (p ∷ []) []

-- those of a character, or of two, that count
abbrev pub counted_three : ℕ → NextPrimaries → List ℕ
counted_three end read = counted_if end read.first ++ (counted_if end read.second ++ counted_if end read.third)

-- those after the first
abbrev pub without_first : NextPrimaries → NextPrimaries
without_first read = record { first = read.second; second = read.third; third = 0; class = read.class }

-- whether one of them isn't 0
abbrev pub HasPrimary : NextPrimaries → Bool → Type 0
HasPrimary read true = Unit {0}
HasPrimary read false = (read.first ≡ 0) × (read.second ≡ 0) × (read.third ≡ 0)

-- A text was read, and of its primaries that count so far these were met, and then come those that were read last.
pub record IsMetAhead {I : Type 0} (source : CollationSource) (end : ℕ) (numeric : Option ℕ) (steps : I → Option ℕ → I → Type 0) (text : List ℕ) (held : Option ℕ) (chars : I) (read : NextPrimaries) (ps : List ℕ) : Type 0 where
  pub items : List ℕ
  pub ahead : IsReadAhead source numeric steps text held chars read.class items
  pub met : counted_primaries end items ≡ ps ++ counted_three end read

-- what comes next of a text of which these primaries were met: one that counts, or none where it is read to its end
abbrev pub IsNextAhead : {I : Type 0} → CollationSource → ℕ → Option ℕ → (I → Option ℕ → I → Type 0) → List ℕ → List ℕ → FlatStep → Option ℕ → I → NextPrimaries → Type 0
IsNextAhead source end numeric steps text ps (Primary p) held chars read =
    (does_count end p ≡ true) × IsMetAhead source end numeric steps text held chars read (ps ++ p ∷ [])
IsNextAhead source end numeric steps text ps End held chars read =
    (items : List ℕ) × (unpacked items ≡ text_elements source numeric text) × (counted_primaries end items ≡ ps)
IsNextAhead source end numeric steps text ps Other held chars read = Unit {0}
