-- What is met at an index of the texts of a context.
use Rattle.std.proofs.Common.{◌≡◌, ◌↔◌, ℕ, zero, suc, ℤ, ◌+◌, ◌-◌, ◌^◌, ◌<◌, ◌≤◌, Bool, true, false, cond, ◌&&◌, leb, List, [], ◌∷◌, length, get_or, Option, Some, None, refl, ap, sym, subst, ◌∙◌, arith, ⊎_elim}
use Rattle.std.specs.Bool.{IsTrue}
use Rattle.std.specs.Prelude.{◌==◌, fold}
use Rattle.std.specs.Int.{cast_unsigned, w32}
use Rattle.std.specs.List.{Contains, list_all}
use Rattle.std.specs.Option.{option_map}
use Rattle.std.proofs.lemmas.Bool.{and_from, and_parts, cases_lt, eq-eqb, eqb-true, false≢true, le-leb, leb-true}
use Rattle.std.proofs.lemmas.List.{get_or_default}
use Rattle.std.proofs.lemmas.Option.{none-some, same_Some}
use Rattle.icu_char16trie.specs.KeyFolds.{AreFolded}
use Rattle.icu_char16trie.specs.UnitGrammar.{IsUnitTrie}
use Rattle.icu_collator_core.specs.declared.check.walks.Reading.{Reading}
use Rattle.icu_collator_core.specs.declared.check.walks.Reading.TheVariants.{Whole, Half, Broken}
use Rattle.icu_collator_core.specs.declared.unsafe_characters.context_texts.Met.{Met}
use Rattle.icu_collator_core.specs.declared.unsafe_characters.context_texts.Side.TheVariants.{Before, Behind}
use Rattle.icu_collator_core.specs.ContextRules.{characters_of_units}
use Rattle.icu_collator_core.specs.KeyTexts.{read_small, read_unit}
use Rattle.icu_collator_core.specs.Pools.{Pools, index_of, trie_of}
use Rattle.icu_collator_core.specs.TextFolds.{count_with, met_with}
use Rattle.icu_collator_core.specs.UnsafeWords.{ContextGives, ContextMakesUnsafe, IsLastOf, ReadingGives}
use Rattle.icu_collator_core.proofs.apart.GrowthLemmas.{UpTo}
use Rattle.icu_collator_core.proofs.checks.CheckedFoldLemmas.{short_from}
use Rattle.icu_collator_core.proofs.checks.CheckedValueLemmas.{folded_readable}
use Rattle.icu_collator_core.proofs.checks.WalkLemmas.{spelled_whole, whole}
use Rattle.icu_collator_core.proofs.meaning.ContextTextLemmas.{units_spell}
use Rattle.icu_collator_core.proofs.unsafety.KeyUnitLemmas.{is_small, key_back, text_small}

-- ---- Units of 16 bits

module _ {A : Type 0} (onward : A → ℕ → A) where
  same_both : (b : Bool) (reading : Reading A) → cond b reading reading ≡ reading
  same_both true reading = refl
  same_both false reading = refl

  broken_stays : (key : List ℕ) → whole (fold (read_small onward) Broken key) ≡ None
  broken_stays [] = refl
  broken_stays (unit ∷ key) = ap (λ r. whole (fold (read_small onward) r key)) (same_both (leb unit 0xffff) Broken) ∙ broken_stays key

  small_more : (reading : Reading A) (unit : ℕ) (key : List ℕ) (a : A) (small : Bool) → is_small unit ≡ small
      → whole (fold (read_small onward) (cond small (read_unit onward reading unit) Broken) key) ≡ Some a
      → ((other : Reading A) → whole (fold (read_small onward) other key) ≡ Some a → list_all is_small key ≡ true)
      → (is_small unit && list_all is_small key) ≡ true
  small_more reading unit key a true e h rest = and_from (is_small unit) (list_all is_small key) e (rest (read_unit onward reading unit) h)
  small_more reading unit key a false e h rest = absurd (none-some a (sym (broken_stays key) ∙ h))

  small_units : (key : List ℕ) (reading : Reading A) (a : A) → whole (fold (read_small onward) reading key) ≡ Some a → list_all is_small key ≡ true
  small_units [] reading a h = refl
  small_units (unit ∷ key) reading a h = small_more reading unit key a (is_small unit) refl h (λ other. small_units key other a)

  small_same : (key : List ℕ) (reading : Reading A) → list_all is_small key ≡ true → fold (read_small onward) reading key ≡ fold (read_unit onward) reading key
  small_same [] reading h = refl
  small_same (unit ∷ key) reading h =
      let w = and_parts (is_small unit) (list_all is_small key) h in
      ap (λ b. fold (read_small onward) (cond b (read_unit onward reading unit) Broken) key) w.0
      ∙ small_same key (read_unit onward reading unit) w.1

  -- what units of 16 bits come to
  small_whole : (start : A) (key : List ℕ) → list_all is_small key ≡ true
      → whole (fold (read_small onward) (Whole start) key) ≡ option_map (fold onward start) (characters_of_units key)
  small_whole start key small = ap whole (small_same key (Whole start) small) ∙ spelled_whole onward start key

-- ---- What is met

module _ (many : ℕ) where
  met_count : (cs : List ℕ) (met : Met) → (fold (met_with many) met cs).count ≡ fold count_with met.count cs
  met_count [] met = refl
  met_count (c ∷ cs) met = met_count cs (met_with many met c)

  -- where there are not too many, they are counted
  count_one : (count c n : ℕ) → count + suc n ≤ 7 → count_with count c ≡ count + 1
  count_one count c n few = ap (λ b. cond b (count + 1) count) (le-leb count 7 (omega (arith, few)))

  counted : (cs : List ℕ) (count : ℕ) → count + length cs ≤ 7 → fold count_with count cs ≡ count + length cs
  counted [] count few = omega arith
  counted (c ∷ cs) count few =
      let one = count_one count c (length cs) few in
      let rest = counted cs (count + 1) (omega (arith, few)) in
      let here : fold count_with (count_with count c) cs ≡ fold count_with (count + 1) cs = ap (λ n. fold count_with n cs) one in
      let end : count + 1 + length cs ≡ count + suc (length cs) = omega arith in
      here ∙ rest ∙ end

  -- the character stays once it was met
  stays_more : (met : Met) (c : ℕ) (reached : Bool) → (count_with met.count c == many) ≡ reached → many ≤ met.count
      → count_with met.count c ≡ met.count + 1 → cond reached c met.character ≡ met.character
  stays_more met c false e past one = refl
  stays_more met c true e past one =
      let same : count_with met.count c ≡ many = eqb-true (count_with met.count c) many e in
      absurd (omega (arith, same, past, one))

  stays : (cs : List ℕ) (met : Met) → many ≤ met.count → met.count + length cs ≤ 7 → (fold (met_with many) met cs).character ≡ met.character
  stays [] met past few = refl
  stays (c ∷ cs) met past few =
      let one = count_one met.count c (length cs) few in
      stays cs (met_with many met c) (omega (arith, past, one)) (omega (arith, few, one))
      ∙ stays_more met c (count_with met.count c == many) refl past one

  meets_more : (cs : List ℕ) (met : Met) (c d : ℕ) (reached : Bool) → (count_with met.count c == many) ≡ reached
      → count_with met.count c ≡ met.count + 1 → met.count < many → many ≤ met.count + suc (length cs) → met.count + suc (length cs) ≤ 7
      → ((other : Met) → other.count < many → many ≤ other.count + length cs → other.count + length cs ≤ 7
      → (fold (met_with many) other cs).character ≡ get_or cs (many - suc other.count) d)
      → (fold (met_with many) (record { count = count_with met.count c; character = cond reached c met.character }) cs).character
      ≡ get_or (c ∷ cs) (many - suc met.count) d
  meets_more cs met c d true e one less within few rest =
      let same : count_with met.count c ≡ many = eqb-true (count_with met.count c) many e in
      let first : many - suc met.count ≡ 0 = omega (arith, same, one) in
      stays cs (record { count = count_with met.count c; character = c }) (omega (arith, same)) (omega (arith, one, few))
      ∙ ap (λ n. get_or (c ∷ cs) n d) (sym first)
  meets_more cs met c d false e one less within few rest =
      let more : met.count + 1 < many = ⊎_elim (λ (w : met.count + 1 < many). w)
      (λ (w : many ≤ met.count + 1). absurd (false≢true (sym e ∙ eq-eqb (count_with met.count c) many (omega (arith, w, one, less))))) (cases_lt (met.count + 1) many) in
      let next : many - suc met.count ≡ suc (many - suc (count_with met.count c)) = omega (arith, more, one) in
      rest (record { count = count_with met.count c; character = met.character }) (omega (arith, more, one)) (omega (arith, within, one)) (omega (arith, few, one))
      ∙ ap (λ n. get_or (c ∷ cs) n d) (sym next)

  meets : (cs : List ℕ) (d : ℕ) (met : Met) → met.count < many → many ≤ met.count + length cs → met.count + length cs ≤ 7
      → (fold (met_with many) met cs).character ≡ get_or cs (many - suc met.count) d
  meets [] d met less within few = absurd (omega (arith, less, within))
  meets (c ∷ cs) d met less within few =
      meets_more cs met c d (count_with met.count c == many) refl (count_one met.count c (length cs) few) less within few
      (λ other. meets cs d other)

-- how much was met
met_length : (many first : ℕ) (cs : List ℕ) → IsTrue (leb (fold (met_with many) (record { count = 0; character = first }) cs).count 7) ↔ (length cs ≤ 7)
met_length many first cs =
    let start : Met = record { count = 0; character = first } in
    let same = met_count many cs start in
    let told = short_from cs 0 in (
      λ t. let few = told.0 (ap (λ n. leb n 7) (sym same) ∙ t) in omega (arith, few),
      λ few. ap (λ n. leb n 7) same ∙ told.1 (omega (arith, few)),
    )

from_none : (n : ℕ) → 0 + n ≡ n
from_none n = omega arith

asked_for : (many first d : ℕ) (cs : List ℕ) → length cs ≤ 7
    → (IsTrue (leb many (fold (met_with many) (record { count = 0; character = first }) cs).count)
    × (d ≡ (fold (met_with many) (record { count = 0; character = first }) cs).character)) ↔ IsLastOf many first cs d
asked_for zero first d cs few =
    let start : Met = record { count = 0; character = first } in
    let kept = stays zero cs start (omega arith) (omega (arith, few)) in
    (λ w. w.1 ∙ kept, λ e. (le-leb 0 (fold (met_with zero) start cs).count (omega arith), e ∙ sym kept))
asked_for (suc index) first d cs few =
    let start : Met = record { count = 0; character = first } in
    let same : (fold (met_with (suc index)) start cs).count ≡ length cs =
    met_count (suc index) cs start ∙ counted (suc index) cs 0 (omega (arith, few)) ∙ from_none (length cs) in
    let at : suc index - suc 0 ≡ index = omega arith in (
      λ w.
          let many = leb-true (suc index) (fold (met_with (suc index)) start cs).count w.0 in
          let inside : index < length cs = omega (arith, many, same) in
          (inside, w.1 ∙ meets (suc index) cs 0 start (omega arith) (omega (arith, inside)) (omega (arith, few)) ∙ ap (λ n. get_or cs n 0) at),
      λ w.
          let inside = w.0 in (
            le-leb (suc index) (fold (met_with (suc index)) start cs).count (omega (arith, inside, same)),
            w.1 ∙ sym (meets (suc index) cs 0 start (omega arith) (omega (arith, inside)) (omega (arith, few)) ∙ ap (λ n. get_or cs n 0) at),
          ),
    )

-- ---- Texts of a context

given_whole : (pools : Pools) (many : ℕ) (reading : Reading Met) (word d : ℕ) → ReadingGives pools many reading word d
    → (met : Met) × (whole reading ≡ Some met) × ReadingGives pools many (Whole met) word d
given_whole pools many (Whole met) word d gives = (met, refl, gives)
given_whole pools many (Half met upper) word d gives = absurd gives
given_whole pools many Broken word d gives = absurd gives

whole_gives : (pools : Pools) (many : ℕ) (reading : Reading Met) (word d : ℕ) (met : Met) → whole reading ≡ Some met
    → ReadingGives pools many (Whole met) word d → ReadingGives pools many reading word d
whole_gives pools many (Whole other) word d met e gives =
    subst (λ one. ReadingGives pools many (Whole one) word d) (sym (same_Some other met e)) gives
whole_gives pools many (Half other upper) word d met e gives = absurd (none-some met e)
whole_gives pools many Broken word d met e gives = absurd (none-some met e)

text_of : (many : ℕ) (start met : Met) (spelled : Option (List ℕ)) → option_map (fold (met_with many) start) spelled ≡ Some met
    → (cs : List ℕ) × (spelled ≡ Some cs) × (fold (met_with many) start cs ≡ met)
text_of many start met None e = absurd (none-some met e)
text_of many start met (Some cs) e = (cs, refl, same_Some (fold (met_with many) start cs) met e)

module _ (pools : Pools) (many first word : ℕ) (readings : List (Reading Met × ℤ)) where
  abbrev start : Met
  start = record { count = 0; character = first }

  abbrev units : List ℕ
  units = trie_of pools.contexts (index_of word)

  -- what the readings of all keys give is what the context does
  pub readings_give : AreFolded (read_small (met_with many)) (Whole start) units readings → length pools.contexts < 2 ^ 64
      → (d : ℕ) → ((one : Reading Met × ℤ) × Contains readings one × ReadingGives pools many one.0 (cast_unsigned w32 one.1) d) ↔ ContextGives pools many first word d
  readings_give folded few d = (
    λ h.
        let one = h.0 in
        let from = (folded.said one.0 one.1).0 h.1 in
        let given = given_whole pools many one.0 (cast_unsigned w32 one.1) d h.2 in
        let read = ap whole from.2 ∙ given.1 in
        let small = small_units (met_with many) from.0 (Whole start) given.0 read in
        let text = text_of many start given.0 (characters_of_units from.0) (sym (small_whole (met_with many) start from.0 small) ∙ read) in
        let parts = and_parts (leb given.0.count 7) (leb many given.0.count) given.2.1 in
        let short = (met_length many first text.0).0 (ap (λ (met : Met). leb met.count 7) text.2 ∙ parts.0) in
        let back = key_back from.0 text.0 small text.1 in (
          from.0,
          one.1,
          folded_readable (read_small (met_with many)) (Whole start) pools.contexts (index_of word) readings folded few,
          from.1,
          given.2.0,
          (
            text.0,
            record { units = back.0; scalars = back.1; short = short },
            (asked_for many first d text.0 short).0
                (ap (λ (met : Met). leb many met.count) text.2 ∙ parts.1, given.2.2 ∙ sym (ap (λ (met : Met). met.character) text.2)),
          ),
        ),
    λ h.
        let key = h.0 in
        let number = h.1 in
        let cs = h.5.0 in
        let is = h.5.1 in
        let met : Met = fold (met_with many) start cs in
        let small = subst (λ us. list_all is_small us ≡ true) is.units (text_small cs is.scalars) in
        let spelled : characters_of_units key ≡ Some cs = sym (ap characters_of_units is.units) ∙ units_spell cs is.scalars in
        let read = small_whole (met_with many) start key small ∙ ap (option_map (fold (met_with many) start)) spelled in
        let reading = fold (read_small (met_with many)) (Whole start) key in
        let asked = (asked_for many first d cs is.short).1 h.5.2 in (
          (reading, number),
          (folded.said reading number).1 (key, h.3, refl),
          whole_gives pools many reading (cast_unsigned w32 number) d met read
              (h.4, and_from (leb met.count 7) (leb many met.count) ((met_length many first cs).1 is.short) asked.0, asked.1),
        ),
  )

-- units that break the grammar give nothing
pub broken_gives_none : (pools : Pools) (many first word : ℕ) → (IsUnitTrie (trie_of pools.contexts (index_of word)) → ⊥)
    → (d : ℕ) → ContextGives pools many first word d → ⊥
broken_gives_none pools many first word broken d h = broken h.2.0

-- the texts after a character make unsafe what stands at their indices, seven at most
pub all_indices : (pools : Pools) (word d : ℕ) → UpTo (λ k e. ContextGives pools (suc k) 0 word e) 7 d ↔ ContextMakesUnsafe pools Behind word d
all_indices pools word d = (
  λ w. let g = w.2 in (
    g.0,
    g.1,
    g.2,
    g.3,
    (
      g.4,
      (
        g.5.0,
        g.5.1,
        (w.0, g.5.2.0, get_or_default g.5.0 w.0 d 0 g.5.2.0 ∙ sym g.5.2.1),
      ),
    ),
  ),
  λ t.
      let cs = t.4.1.0 in
      let is = t.4.1.1 in
      let at = t.4.1.2 in
      let inside = at.1 in
      let short = is.short in (
        at.0,
        omega (arith, inside, short),
        (t.0, t.1, t.2, t.3, t.4.0, (cs, is, (inside, sym (at.2) ∙ get_or_default cs at.0 d 0 inside))),
      ),
)

-- a text before a character makes that one unsafe
pub any_text : (pools : Pools) (word c d : ℕ) → ContextGives pools zero c word d ↔ ContextMakesUnsafe pools (Before c) word d
any_text pools word c d = (λ g. (g.0, g.1, g.2, g.3, (g.4, g.5)), λ t. (t.0, t.1, t.2, t.3, t.4.0, t.4.1))
