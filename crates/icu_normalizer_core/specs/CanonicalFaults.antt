-- What canonical tables are refused for. Each fault names the least character of its kind, and a kind comes only where no earlier one does.
use Rattle.std.specs.Prelude.{◌≡◌, ◌≢◌, ℕ, ◌<◌, ◌⊎◌, Bool, true, false, not, ◌&&◌, ◌||◌, List, [], ◌∷◌, length, slice_index, SomeIndex, Contains, Some}
use Rattle.std.specs.Char.{IsScalar}
use Rattle.icu_normalizer_core.specs.declared.canonical.tables.CanonicalFault.{CanonicalFault}
use Rattle.icu_normalizer_core.specs.declared.canonical.tables.CanonicalFault.TheVariants.{BadValue, BadList, Loop, BuiltIn, BadPair}
use Rattle.icu_normalizer_core.specs.BuiltIn.{is_within, is_syllable, is_jamo, built_in_step, built_in_class}
use Rattle.icu_normalizer_core.specs.Canonical.{Canonical, IsFree, Leaves, is_starter, composed}
use Rattle.icu_normalizer_core.specs.CanonicalWords.{is_word, is_inside, states_list, built_in_full}
use Rattle.icu_normalizer_core.specs.CanonicalLists.{CanonicalLists, canonical_of, listed_step, AreTriples, ArePairs, pair_first, pair_second, pair_composed}

-- no character offends
abbrev pub NoneOffends : (ℕ → Type 0) → Type 0
NoneOffends Offends = (c : ℕ) → IsScalar c → Offends c → ⊥

-- the character offends, and none below it
abbrev pub IsLeastOffender : (ℕ → Type 0) → ℕ → Type 0
IsLeastOffender Offends c = IsScalar c × Offends c × ((d : ℕ) → IsScalar d → d < c → Offends d → ⊥)

-- what mapping steps leave of the character, where they end
abbrev pub LeavesOf : CanonicalLists → ℕ → List ℕ → Type 0
LeavesOf lists c list = Leaves (canonical_of lists).step (c ∷ []) list

-- ---- BadValue: no word, or one that has none of the forms

abbrev pub OffendsValue : CanonicalLists → ℕ → Type 0
OffendsValue lists c = (lists.has_word c && is_word c (lists.word c)) ≡ false

-- ---- BadList: a full list outside the lists, too long, with a mark first, or not what steps leave; mappings that are no triples are U+0000's

-- the first character of a list is a mark
abbrev pub begins_with_mark : Canonical → List ℕ → Bool
begins_with_mark canonical [] = false
begins_with_mark canonical (c ∷ cs) = not (is_starter canonical c)

-- what steps leave, where they end, is another list
abbrev pub HasOtherList : CanonicalLists → ℕ → Type 0
HasOtherList lists c = (list : List ℕ) × LeavesOf lists c list × ((canonical_of lists).full c ≢ list)

abbrev pub HasBadList : CanonicalLists → ℕ → Type 0
HasBadList lists c =
    (is_inside lists.scalars16 lists.scalars24 (lists.word c) ≡ false)
    ⊎ ((8 < length ((canonical_of lists).full c))
    ⊎ (((states_list (lists.word c) && begins_with_mark (canonical_of lists) ((canonical_of lists).full c)) ≡ true)
    ⊎ HasOtherList lists c))

abbrev pub OffendsList : CanonicalLists → ℕ → Type 0
OffendsList lists c = ((c ≡ 0) × (AreTriples lists.steps → ⊥)) ⊎ (IsFree c × HasBadList lists c)

-- ---- Loop: steps don't end

-- the steps from the character end
abbrev pub Ends : CanonicalLists → ℕ → Type 0
Ends lists c = (list : List ℕ) × LeavesOf lists c list

abbrev pub OffendsLoop : CanonicalLists → ℕ → Type 0
OffendsLoop lists c = Ends lists c → ⊥

-- the steps from each character end
abbrev pub AllEnd : CanonicalLists → Type 0
AllEnd lists = (c : ℕ) → IsScalar c → Ends lists c

-- ---- BuiltIn: what is built in is contradicted

abbrev pub ContradictsClass : CanonicalLists → ℕ → Type 0
ContradictsClass lists c = (k : ℕ) × (built_in_class c ≡ Some k) × ((canonical_of lists).class c ≢ k)

-- a built-in mapping beside another one in the list
abbrev pub ContradictsStep : CanonicalLists → ℕ → Type 0
ContradictsStep lists c = (ds : List ℕ) × (built_in_step c ≡ Some ds) × (listed_step lists.steps c ≢ []) × (listed_step lists.steps c ≢ ds)

-- beside a built-in mapping a full list outside the lists, or another one than the mapping's
abbrev pub ContradictsFull : CanonicalLists → ℕ → Type 0
ContradictsFull lists c =
    (list : List ℕ) × (built_in_full c ≡ Some list)
    × ((is_inside lists.scalars16 lists.scalars24 (lists.word c) ≡ false) ⊎ ((canonical_of lists).full c ≢ list))

-- a character below U+0300 is a starter, one below U+00C0 has no mapping
abbrev pub IsLowMark : CanonicalLists → ℕ → Type 0
IsLowMark lists c = (c < 0x300) × ((canonical_of lists).class c ≢ 0)

abbrev pub IsLowMapped : CanonicalLists → ℕ → Type 0
IsLowMapped lists c = (c < 0xc0) × ((canonical_of lists).step c ≢ [])

-- a mapping names a jamo or a syllable
abbrev pub MapsToLetter : CanonicalLists → ℕ → Type 0
MapsToLetter lists c = IsFree c × ((d : ℕ) × Contains ((canonical_of lists).step c) d × ((is_jamo d || is_syllable d) ≡ true))

abbrev pub OffendsBuiltIn : CanonicalLists → ℕ → Type 0
OffendsBuiltIn lists c =
    ContradictsClass lists c ⊎ (ContradictsStep lists c ⊎ (ContradictsFull lists c ⊎ (IsLowMark lists c ⊎ (IsLowMapped lists c ⊎ MapsToLetter lists c))))

-- ---- BadPair: a pair that is not the mapping of what it composes to, or has a second that can't be one; a character below U+0300 that is not
-- its own composed list; pairs in another form are U+0000's

-- the entry composes what has another mapping or a built-in one, or its second is below U+0300 or a vowel or trailing consonant
abbrev pub IsBadPair : CanonicalLists → ℕ → Type 0
IsBadPair lists pair =
    (IsFree (pair_composed pair) → ⊥)
    ⊎ (((canonical_of lists).step (pair_composed pair) ≢ pair_first pair ∷ pair_second pair ∷ [])
    ⊎ ((pair_second pair < 0x300) ⊎ (is_within 0x1161 0x11ff (pair_second pair) ≡ true)))

abbrev pub OffendsPair : CanonicalLists → ℕ → Type 0
OffendsPair lists c =
    ((c ≡ 0) × (ArePairs lists.pairs → ⊥))
    ⊎ (SomeIndex lists.pairs (λ i. (pair_composed (slice_index lists.pairs i) ≡ c) × IsBadPair lists (slice_index lists.pairs i))
    ⊎ ((c < 0x300) × (composed (canonical_of lists) (c ∷ []) ≢ c ∷ [])))

-- ---- Accepted, or refused by the first fault

pub record IsAccepted (lists : CanonicalLists) : Type 0 where
  pub values : NoneOffends (OffendsValue lists)
  pub full_lists : NoneOffends (OffendsList lists)
  pub ends : AllEnd lists
  pub built_ins : NoneOffends (OffendsBuiltIn lists)
  pub composing : NoneOffends (OffendsPair lists)

abbrev pub IsFirstFault : CanonicalLists → CanonicalFault → Type 0
IsFirstFault lists (BadValue c) = IsLeastOffender (OffendsValue lists) c
IsFirstFault lists (BadList c) = NoneOffends (OffendsValue lists) × IsLeastOffender (OffendsList lists) c
IsFirstFault lists (Loop c) = NoneOffends (OffendsValue lists) × NoneOffends (OffendsList lists) × IsLeastOffender (OffendsLoop lists) c
IsFirstFault lists (BuiltIn c) =
    NoneOffends (OffendsValue lists) × NoneOffends (OffendsList lists) × AllEnd lists × IsLeastOffender (OffendsBuiltIn lists) c
IsFirstFault lists (BadPair c) =
    NoneOffends (OffendsValue lists) × NoneOffends (OffendsList lists) × AllEnd lists × NoneOffends (OffendsBuiltIn lists)
    × IsLeastOffender (OffendsPair lists) c
