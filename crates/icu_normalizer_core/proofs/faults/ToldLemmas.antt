-- Lists of the code points of which there is something to be told, collected one by one; any other is at fault for nothing.
use Rattle.std.proofs.Common.{◌≡◌, ◌≢◌, ℕ, ◌+◌, ◌*◌, ◌-◌, ◌<◌, ◌≤◌, ◌⊎◌, inl, inr, ⊎_elim, Bool, true, false, ◌&&◌, ◌||◌, leb, List, [], ◌∷◌, ◌++◌, length, slice_index, Option, Some, None, refl, sym, ap, subst, ◌∙◌, arith, length-append}
use Rattle.std.specs.Option.{MatchOption}
use Rattle.std.specs.List.{Contains}
use Rattle.std.specs.Char.{IsScalar}
use Rattle.std.proofs.lemmas.Bool.{and_from, and_parts, cases_lt, both_ways, cond-true, leb-true}
use Rattle.std.proofs.lemmas.Bool.Decides.{nat_tests}
use Rattle.std.proofs.lemmas.Option.{none-some, same_Some}
use Rattle.std.specs.Option.{is_some, unwrap_or}
use Rattle.icu_codepointtrie.specs.Slots.{has_cell}
use Rattle.icu_codepointtrie.specs.CellRuns.{IsEndOfCells}
use Rattle.icu_normalizer_core.specs.BuiltIn.{built_in_class, is_syllable, singled_out}
use Rattle.icu_normalizer_core.specs.Canonical.{IsFree}
use Rattle.icu_normalizer_core.specs.declared.canonical.tables.CanonicalTables.{CanonicalTables}
use Rattle.icu_normalizer_core.specs.CanonicalFaults.{OffendsValue, OffendsList, OffendsBuiltIn}
use Rattle.icu_normalizer_core.specs.CanonicalLists.{CanonicalLists, AreTriples, canonical_of}
use Rattle.icu_normalizer_core.specs.CanonicalMeaning.{lists_of}
use Rattle.icu_normalizer_core.specs.CanonicalWords.{built_in_full, class_of_word, full_of_word, is_inside, is_mark_word, is_singled_word, is_word, plain_word, states_list, syllable_letters}
use Rattle.icu_normalizer_core.specs.Plain.{AreSilent, AreUntold, IsCursor, IsIn, IsNothingBuiltIn, IsPlain, IsPlainSyllable, IsRun, IsSilent, IsUntold, Rises, Tells, TellsBelow}
use Rattle.icu_normalizer_core.specs.Triples.{IsUnlisted}
use Rattle.icu_normalizer_core.proofs.built.BuiltInFacts.{free_full, syllable_mapped}
use Rattle.icu_normalizer_core.proofs.building.InOrderLemmas.{index_before, index_last}
use Rattle.icu_normalizer_core.proofs.faults.FaultLemmas.{own_good}
use Rattle.icu_normalizer_core.proofs.faults.OffenderLemmas.{IsLeastIn}
use Rattle.icu_normalizer_core.proofs.decoded.ScalarLemmas.{scalar_below}
use Rattle.icu_normalizer_core.proofs.accepted.TableMeanings.{class_is, full_is, step_free, zero_form}
use Rattle.icu_normalizer_core.proofs.settling.TripleLemmas.{keys_rise, unlisted_between, listed_none}

-- ---- A list with one more

in_before : (told : List ℕ) (n c : ℕ) → IsIn told c → IsIn (told ++ n ∷ []) c
in_before told n c (i, lt, e) = (i, omega (arith, lt, length-append told (n ∷ [])), index_before told (n ∷ []) i lt ∙ e)

in_last : (told : List ℕ) (n : ℕ) → IsIn (told ++ n ∷ []) n
in_last told n = (length told, omega (arith, length-append told (n ∷ [])), index_last told n)

below_more : (told : List ℕ) (n : ℕ) → ((i : ℕ) → i < length told → slice_index told i < n)
    → (i : ℕ) → i < length (told ++ n ∷ []) → slice_index (told ++ n ∷ []) i < n + 1
below_more told n below i h =
    ⊎_elim
    (λ (lt : i < length told). let before = below i lt in let same = index_before told (n ∷ []) i lt in omega (arith, before, same))
    (λ (ge : length told ≤ i).
    let at : i ≡ length told = omega (arith, h, length-append told (n ∷ [])) in
    rw (at, index_last told n) (omega arith))
    (cases_lt i (length told))

rises_more : (told : List ℕ) (n : ℕ) → Rises told → ((i : ℕ) → i < length told → slice_index told i < n) → Rises (told ++ n ∷ [])
rises_more told n rises below i j lt h =
    let within : i < length told = omega (arith, lt, h, length-append told (n ∷ [])) in
    let first = index_before told (n ∷ []) i within in
    ⊎_elim
    (λ (inside : j < length told). let up = rises i j lt inside in let same = index_before told (n ∷ []) j inside in omega (arith, first, up, same))
    (λ (ge : length told ≤ j).
    let at : j ≡ length told = omega (arith, h, length-append told (n ∷ [])) in
    let up = below i within in
    rw (at, index_last told n) (omega (arith, first, up)))
    (cases_lt j (length told))

-- ---- The cursor among triples

cursor_past : (steps : List ℕ) (code index : ℕ) → AreTriples steps → IsCursor steps code index
    → (3 * index + 2 < length steps → slice_index steps (3 * index) ≢ code) → IsCursor steps (code + 1) index
cursor_past steps code index t at other = record {
  within = at.within;
  below = λ some. let key = at.below some in omega (arith, key);
  above = λ h. let key = at.above h in let whole = t.whole in let ne = other (omega (arith, h, whole)) in omega (arith, key, ne);
}

cursor_on : (steps : List ℕ) (code index : ℕ) → AreTriples steps → IsCursor steps code index
    → 3 * index + 2 < length steps → slice_index steps (3 * index) ≡ code → IsCursor steps (code + 1) (index + 1)
cursor_on steps code index t at inside key = record {
  within = omega (arith, inside);
  below = λ some.
      let same : index + 1 - 1 ≡ index = omega arith in
      rw same (omega (arith, key));
  above = λ h. let up = keys_rise steps t index (index + 1) (omega arith) h in omega (arith, up, key);
}

-- ---- What is collected of the code points below one

pub tells_none : (lists : CanonicalLists) → TellsBelow lists [] 0 0
tells_none lists = record {
  rises = λ i j lt h. absurd (omega arith);
  below = λ i h. absurd (omega arith);
  words = λ c h. absurd (omega arith);
  cursor = λ t. record { within = omega arith; below = λ some. absurd (omega arith); above = λ h. omega arith };
  triples = λ t c h. absurd (omega arith);
}

-- the code point itself, or one before it
each_more : (told : List ℕ) (code : ℕ) (Q : ℕ → Type 0) → ((c : ℕ) → c < code → IsIn told c ⊎ Q c)
    → (c : ℕ) → c < code + 1 → IsIn (told ++ code ∷ []) c ⊎ Q c
each_more told code Q before c h =
    ⊎_elim
    (λ lt. ⊎_elim (λ w. inl (in_before told code c w)) (λ q. inr q) (before c lt))
    (λ ge. let at : c ≡ code = omega arith in inl (subst (λ (d : ℕ). IsIn (told ++ code ∷ []) d) (sym at) (in_last told code)))
    (cases_lt c code)

module _ (lists : CanonicalLists) (told : List ℕ) (code index : ℕ) (so_far : TellsBelow lists told code index) where
  pub tells_listed : 3 * index + 2 < length lists.steps → slice_index lists.steps (3 * index) ≡ code → TellsBelow lists (told ++ code ∷ []) (code + 1) (index + 1)
  tells_listed inside key = record {
    rises = rises_more told code so_far.rises so_far.below;
    below = below_more told code so_far.below;
    words = each_more told code (IsUntold lists) so_far.words;
    cursor = λ t. cursor_on lists.steps code index t (so_far.cursor t) inside key;
    triples = λ t. each_more told code (IsUnlisted lists.steps) (so_far.triples t);
  }

  pub tells_told : (3 * index + 2 < length lists.steps → slice_index lists.steps (3 * index) ≢ code) → TellsBelow lists (told ++ code ∷ []) (code + 1) index
  tells_told other = record {
    rises = rises_more told code so_far.rises so_far.below;
    below = below_more told code so_far.below;
    words = each_more told code (IsUntold lists) so_far.words;
    cursor = λ t. cursor_past lists.steps code index t (so_far.cursor t) other;
    triples = λ t. each_more told code (IsUnlisted lists.steps) (so_far.triples t);
  }

-- no triple has its key from the code point to before one further up, and there is nothing to be told of these
module _ (lists : CanonicalLists) (told : List ℕ) (code index further : ℕ) (so_far : TellsBelow lists told code index) where
  pub tells_further : code ≤ further → AreUntold lists code further
      → (AreTriples lists.steps → 3 * index < length lists.steps → further ≤ slice_index lists.steps (3 * index))
      → TellsBelow lists told further index
  tells_further up untold above = record {
    rises = so_far.rises;
    below = λ i h. let lt = so_far.below i h in omega (arith, lt, up);
    words = λ c h. ⊎_elim (λ lt. so_far.words c lt) (λ ge. inr (untold c ge h)) (cases_lt c code);
    cursor = λ t. record {
      within = (so_far.cursor t).within;
      below = λ some. let key = (so_far.cursor t).below some in omega (arith, key, up);
      above = above t;
    };
    triples = λ t c h.
        ⊎_elim (λ lt. so_far.triples t c lt)
        (λ ge. inr (unlisted_between lists.steps c index t
        (λ some. let key = (so_far.cursor t).below some in omega (arith, key, ge))
        (λ inside. let key = above t inside in omega (arith, key, h))
        (so_far.cursor t).within))
        (cases_lt c code);
  }

-- of triples that rise none has its key from the code point to before one that was passed
pub key_behind : (lists : CanonicalLists) (told : List ℕ) (code index reached passed : ℕ) → TellsBelow lists told code index
    → (3 * index + 2 < length lists.steps → slice_index lists.steps (3 * index) ≢ code)
    → (3 * index + 2 < length lists.steps → code < slice_index lists.steps (3 * index) → reached ≤ slice_index lists.steps (3 * index))
    → passed ≤ reached → AreTriples lists.steps → 3 * index < length lists.steps → passed ≤ slice_index lists.steps (3 * index)
key_behind lists told code index reached passed so_far other behind up t h =
    let whole = t.whole in
    let inside : 3 * index + 2 < length lists.steps = omega arith in
    let key = (so_far.cursor t).above h in
    let ne = other inside in
    let further = behind inside (omega (arith, key, ne)) in
    omega (arith, further, up)

pub tells_all : (lists : CanonicalLists) (told : List ℕ) (code index : ℕ) → TellsBelow lists told code index → 0x110000 ≤ code → Tells lists told
tells_all lists told code index so_far past = record {
  rises = so_far.rises;
  words = λ c h. so_far.words c (omega (arith, past, h));
  triples = λ t c h. so_far.triples t c (omega (arith, past, h));
}

-- ---- Runs of one word

pub run_from : (tables : CanonicalTables) (start end code stop : ℕ) → IsRun tables start end → start ≤ code → code < stop → stop ≤ end → IsRun tables code stop
run_from tables start end code stop run from some to = record {
  words = λ c low high. run.words c (omega (arith, from, low)) (omega (arith, high, to)) ∙ sym (run.words code from (omega (arith, some, to)));
  cells = λ c low high. run.cells c (omega (arith, from, low)) (omega (arith, high, to)) ∙ sym (run.cells code from (omega (arith, some, to)));
}

pub end_is_run : (tables : CanonicalTables) (start end : ℕ) → IsEndOfCells tables.trie start end → IsRun tables start end
end_is_run tables start end is = record { words = is.values; cells = is.cells }

untold_of : (lists : CanonicalLists) (c : ℕ) → lists.has_word c ≡ true → IsSilent (lists.word c) c → IsUntold lists c
untold_of lists c has (inl w) = inl (has, w.0, w.1.0, w.1.1, w.1.2)
untold_of lists c has (inr w) = inr (has, w.0, w.1)

pub silent_nothing : (word code stop : ℕ) → word ≡ 0 → ((c : ℕ) → code ≤ c → c < stop → IsNothingBuiltIn c) → AreSilent word code stop
silent_nothing word code stop zero nothing c low high = inl (zero, nothing c low high)

pub silent_syllables : (word code stop : ℕ) → word ≡ 1 → ((c : ℕ) → code ≤ c → c < stop → is_syllable c ≡ true) → AreSilent word code stop
silent_syllables word code stop one syllables c low high = inr (one, syllables c low high)

pub silent_none : (word code : ℕ) → AreSilent word code code
silent_none word code c low high = absurd (omega (arith, low, high))

pub untold_none : (lists : CanonicalLists) (code : ℕ) → AreUntold lists code code
untold_none lists code c low high = absurd (omega (arith, low, high))

-- what the word of a run says nothing of
pub untold_run : (tables : CanonicalTables) (code end silence stop : ℕ) → IsRun tables code end → has_cell tables.trie code ≡ true
    → AreSilent ((lists_of tables).word code) code silence → stop ≤ silence → stop ≤ end → AreUntold (lists_of tables) code stop
untold_run tables code end silence stop run has silent within to c low high =
    let word : (lists_of tables).word c ≡ (lists_of tables).word code = ap (λ v. plain_word (unwrap_or v 0)) (run.words c low (omega (arith, high, to))) in
    untold_of (lists_of tables) c (run.cells c low (omega (arith, high, to)) ∙ has)
    (subst (λ (w : ℕ). IsSilent w c) (sym word) (silent c low (omega (arith, high, within))))

-- ---- A plain character is at fault for nothing

none_in : (xs : List ℕ) (d : ℕ) → xs ≡ [] → Contains xs d → ⊥
none_in [] d e (k, lt, f) = omega arith
none_in (x ∷ xs) d e w = let size = ap length e in omega (arith, size)

module _ (lists : CanonicalLists) (c : ℕ) (plain : IsPlain lists c) where
  plain_value : OffendsValue lists c → ⊥
  plain_value bad = both_ways _ bad (and_from (lists.has_word c) (is_word c (lists.word c)) plain.0 (ap (is_word c) plain.1 ∙ zero_form c))

  plain_list : AreTriples lists.steps → IsUnlisted lists.steps c → OffendsList lists c → ⊥
  plain_list t unlisted (inl zero) = zero.1 t
  plain_list t unlisted (inr bad) = own_good lists c plain.1 bad.0 unlisted bad.1

  plain_built_in : IsUnlisted lists.steps c → OffendsBuiltIn lists c → ⊥
  plain_built_in unlisted (inl w) = none-some w.0 (sym plain.3 ∙ w.1)
  plain_built_in unlisted (inr (inl w)) = none-some w.0 (sym plain.4 ∙ w.1)
  plain_built_in unlisted (inr (inr (inl w))) = none-some w.0 (sym (free_full c plain.4) ∙ w.1)
  plain_built_in unlisted (inr (inr (inr (inl low)))) = let h = plain.2 in let k = low.0 in omega (arith, h, k)
  plain_built_in unlisted (inr (inr (inr (inr (inl low))))) = let h = plain.2 in let k = low.0 in omega (arith, h, k)
  plain_built_in unlisted (inr (inr (inr (inr (inr w))))) =
      none_in ((canonical_of lists).step c) w.1.0 (step_free lists c w.0 ∙ listed_none lists.steps c unlisted) w.1.1

-- ---- A syllable with its word is at fault for nothing

pub one_form : (c : ℕ) → is_syllable c ≡ true → is_word c 1 ≡ true
unfolding is_word
one_form c e = ap (λ (b : Bool). false || (true && b) || is_mark_word 1 || (is_singled_word 1 && is_some (singled_out c)) || states_list 1) e

pub one_class : (c : ℕ) → class_of_word c 1 ≡ 0
unfolding class_of_word
one_class c = refl

pub one_inside : (scalars16 scalars24 : List ℕ) → is_inside scalars16 scalars24 1 ≡ true
unfolding is_inside
one_inside scalars16 scalars24 = refl

pub one_letters : (scalars16 scalars24 : List ℕ) (c : ℕ) → full_of_word scalars16 scalars24 c 1 ≡ syllable_letters c
unfolding full_of_word
one_letters scalars16 scalars24 c = refl

class_built_in : (c : ℕ) → 0xac00 ≤ c → c ≤ 0xd7a3 → built_in_class c ≡ Some 0
unfolding built_in_class
class_built_in c h k = grind (arith, nat_tests)

pub full_built_in : (c : ℕ) → is_syllable c ≡ true → built_in_full c ≡ Some (syllable_letters c)
unfolding built_in_full
full_built_in c e = cond-true (is_syllable c) _ _ e

module _ (lists : CanonicalLists) (c : ℕ) (plain : IsPlainSyllable lists c) where
  from : 0xac00 ≤ c
  from = leb-true 0xac00 c (and_parts (leb 0xac00 c) (leb c 0xd7a3) plain.2).0

  to : c ≤ 0xd7a3
  to = leb-true c 0xd7a3 (and_parts (leb 0xac00 c) (leb c 0xd7a3) plain.2).1

  bound : IsFree c → ⊥
  bound free = none-some _ (sym free ∙ syllable_mapped c plain.2)

  full_same : (canonical_of lists).full c ≡ syllable_letters c
  full_same = full_is lists c ∙ ap (full_of_word lists.scalars16 lists.scalars24 c) plain.1 ∙ one_letters lists.scalars16 lists.scalars24 c

  syllable_value : OffendsValue lists c → ⊥
  syllable_value bad = both_ways _ bad (and_from (lists.has_word c) (is_word c (lists.word c)) plain.0 (ap (is_word c) plain.1 ∙ one_form c plain.2))

  syllable_list : AreTriples lists.steps → IsUnlisted lists.steps c → OffendsList lists c → ⊥
  syllable_list t unlisted (inl zero) = zero.1 t
  syllable_list t unlisted (inr bad) = bound bad.0

  syllable_built_in : IsUnlisted lists.steps c → OffendsBuiltIn lists c → ⊥
  syllable_built_in unlisted (inl w) =
      w.2 (class_is lists c ∙ ap (class_of_word c) plain.1 ∙ one_class c ∙ same_Some 0 w.0 (sym (class_built_in c from to) ∙ w.1))
  syllable_built_in unlisted (inr (inl w)) = w.2 (listed_none lists.steps c unlisted)
  syllable_built_in unlisted (inr (inr (inl w))) =
      let letters : syllable_letters c ≡ w.0 = same_Some (syllable_letters c) w.0 (sym (full_built_in c plain.2) ∙ w.1) in
      ⊎_elim
      (λ outside. both_ways _ outside (ap (is_inside lists.scalars16 lists.scalars24) plain.1 ∙ one_inside lists.scalars16 lists.scalars24))
      (λ other. other (full_same ∙ letters))
      w.2
  syllable_built_in unlisted (inr (inr (inr (inl low)))) = let h = from in let k = low.0 in omega (arith, h, k)
  syllable_built_in unlisted (inr (inr (inr (inr (inl low))))) = let h = from in let k = low.0 in omega (arith, h, k)
  syllable_built_in unlisted (inr (inr (inr (inr (inr w))))) = bound w.0

-- ---- What isn't told is at fault for nothing

module _ (lists : CanonicalLists) (c : ℕ) where
  untold_value : IsUntold lists c → OffendsValue lists c → ⊥
  untold_value (inl plain) = plain_value lists c plain
  untold_value (inr plain) = syllable_value lists c plain

  untold_list : AreTriples lists.steps → IsUntold lists c → IsUnlisted lists.steps c → OffendsList lists c → ⊥
  untold_list t (inl plain) = plain_list lists c plain t
  untold_list t (inr plain) = syllable_list lists c plain t

  untold_built_in : IsUntold lists c → IsUnlisted lists.steps c → OffendsBuiltIn lists c → ⊥
  untold_built_in (inl plain) = plain_built_in lists c plain
  untold_built_in (inr plain) = syllable_built_in lists c plain

-- each character is told, or does not offend
abbrev pub IsKept : (ℕ → Type 0) → List ℕ → Type 0
IsKept Offends told = (c : ℕ) → IsScalar c → IsIn told c ⊎ (Offends c → ⊥)

module _ (lists : CanonicalLists) (told : List ℕ) (tells : Tells lists told) where
  pub kept_values : IsKept (OffendsValue lists) told
  kept_values c s = ⊎_elim (λ w. inl w) (λ untold. inr (untold_value lists c untold)) (tells.words c (scalar_below c s))

  kept : AreTriples lists.steps → (Offends : ℕ → Type 0) → ((c : ℕ) → IsUntold lists c → IsUnlisted lists.steps c → Offends c → ⊥) → IsKept Offends told
  kept t Offends harmless c s =
      ⊎_elim (λ w. inl w)
      (λ untold. ⊎_elim (λ w. inl w) (λ unlisted. inr (harmless c untold unlisted)) (tells.triples t c (scalar_below c s)))
      (tells.words c (scalar_below c s))

  pub kept_lists : AreTriples lists.steps → IsKept (OffendsList lists) told
  kept_lists t = kept t (OffendsList lists) (λ c untold unlisted. untold_list lists c t untold unlisted)

  pub kept_built_ins : AreTriples lists.steps → IsKept (OffendsBuiltIn lists) told
  kept_built_ins t = kept t (OffendsBuiltIn lists) (λ c untold unlisted. untold_built_in lists c untold unlisted)

-- the least offender of those that are told is the least of all
pub least_told : (Offends : ℕ → Type 0) (told : List ℕ) → IsKept Offends told → (r : Option ℕ)
    → MatchOption r
    ((c : ℕ) → IsScalar c → IsIn told c → Offends c → ⊥)
    (λ (c : ℕ). IsScalar c × Offends c × ((d : ℕ) → IsScalar d → IsIn told d → d < c → Offends d → ⊥))
    → IsLeastIn Offends r
least_told Offends told keeps None none = λ c s o. ⊎_elim (λ w. none c s w o) (λ harmless. harmless o) (keeps c s)
least_told Offends told keeps (Some c) w = (w.0, w.1, λ d s lt o. ⊎_elim (λ in_it. w.2 d s in_it lt o) (λ harmless. harmless o) (keeps d s))
