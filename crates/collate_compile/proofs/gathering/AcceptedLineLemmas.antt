-- What accepted lines give: keys and elements that can be written, and not too many of them.
use Rattle.std.proofs.Common.{◌≡◌, ℕ, ◌+◌, ◌/◌, ◌%◌, ◌^◌, ◌<◌, ◌≤◌, Bool, true, false, not, ◌==◌, ◌&&◌, ◌||◌, leb, ltb, List, [], ◌∷◌, length, take, Some, refl, sym, subst, arith, All, inl, inr, ⊎_elim, take_all}
use Rattle.std.specs.Prelude.{count_by, sum_by}
use Rattle.std.specs.List.{list_all}
use Rattle.std.proofs.lemmas.Bool.{and_from, and_parts, cases_lt, eqb-true, false_from_ne_true, leb-true, lt-ltb, or_cases, true_from_ne_false}
use Rattle.std.proofs.lemmas.Option.{unwrap_or-slice_get}
use Rattle.std.proofs.lemmas.List.Elements.{All-get_or, All-weaker}
use Rattle.icu_collator_types.specs.declared.elements.Element.{Element}
use Rattle.icu_collator_core.specs.WeightRules.{has_widths, is_sound_kind, is_sound_tertiary}
use Rattle.collate_lines.specs.declared.rule.Rule.TheVariants.{Limit, V1, V4, V10, V11}
use Rattle.collate_lines.specs.Grammar.{record_of}
use Rattle.collate_lines.specs.Record.{Record, nothing, class, mapping, compatibility, weights, range, digit, setting}
use Rattle.collate_lines.specs.Repeats.{record_at}
use Rattle.collate_rules.specs.Accepted.{AreAccepted, IsSaid}
use Rattle.collate_rules.specs.GivenWeights.{KeepsWidths, elements_of, has_sound_tertiary}
use Rattle.collate_rules.specs.RecordRules.{breaks_digits, breaks_prefixes}
use Rattle.icu_normalizer_core.specs.Named.{narrow_block, wide_block}
use Rattle.collate_rules.specs.Rules.{IsLong, blocks_in, different, element_room, is_beside}
use Rattle.collate_rules.proofs.given.GrammarLemmas.{line_keeps_widths}
use Rattle.collate_rules.proofs.offenders.LineRuleLemmas.{each_line}
use Rattle.collate_words.specs.Fits.{AreFit, fits_bits}
use Rattle.collate_compile.proofs.laws.CompiledCharacterLemmas.{AreCharacters, HasCharacters, line_has_characters}

-- ---- A line

-- a line's key and elements can be written
pub record CanWrite (prefix text : List ℕ) (es : List Element) : Type 0 where
  pub key : AreCharacters prefix text
  pub short : length text ≤ 8
  pub elements : AreFit es

abbrev pub CanWriteLine : Record → Type 0
CanWriteLine (weights layer prefix text es) = CanWrite prefix text es
CanWriteLine _ = Unit {0}

-- whether a lead is one that tertiaries have, other than the common one
abbrev is_free : ℕ → Bool
is_free lead = (leb 0x02 lead && leb lead 0x04) || (leb 0x06 lead && leb lead 0x3f)

free_below : (lead : ℕ) → is_free lead ≡ true → lead < 64
free_below lead h = ⊎_elim low high (or_cases (leb 0x02 lead && leb lead 0x04) (leb 0x06 lead && leb lead 0x3f) h)
  where
    low : (leb 0x02 lead && leb lead 0x04) ≡ true → lead < 64
    low k = let most = leb-true lead 0x04 (and_parts (leb 0x02 lead) (leb lead 0x04) k).1 in omega (arith, most)

    high : (leb 0x06 lead && leb lead 0x3f) ≡ true → lead < 64
    high k = let most = leb-true lead 0x3f (and_parts (leb 0x06 lead) (leb lead 0x3f) k).1 in omega (arith, most)

tertiary_fits : (t : ℕ) → ((t == 0) || is_sound_tertiary t) ≡ true → (t / 256 < 64) × (t % 256 < 64)
tertiary_fits t h = ⊎_elim none some (or_cases (t == 0) (is_sound_tertiary t) h)
  where
    none : (t == 0) ≡ true → (t / 256 < 64) × (t % 256 < 64)
    none e = let same = eqb-true t 0 e in (omega (arith, same), omega (arith, same))

    common : (t == 0x500) ≡ true → (t / 256 < 64) × (t % 256 < 64)
    common e = let same = eqb-true t 0x500 e in (omega (arith, same), omega (arith, same))

    free : (is_free (t / 256) && leb (t % 256) 0x3f && not (t % 256 == 1)) ≡ true → (t / 256 < 64) × (t % 256 < 64)
    free k =
        let two = and_parts (is_free (t / 256) && leb (t % 256) 0x3f) (not (t % 256 == 1)) k in
        let one = and_parts (is_free (t / 256)) (leb (t % 256) 0x3f) two.0 in
        let most = leb-true (t % 256) 0x3f one.1 in
        (free_below (t / 256) one.0, omega (arith, most))

    some : is_sound_tertiary t ≡ true → (t / 256 < 64) × (t % 256 < 64)
    some k =
        ⊎_elim common free (or_cases (t == 0x500) (is_free (t / 256) && leb (t % 256) 0x3f && not (t % 256 == 1)) k)

element_fits : (e : Element) → has_widths e ≡ true → is_sound_kind e ≡ true → has_sound_tertiary e ≡ true
    → fits_bits e ≡ true
element_fits e widths kind tertiary =
    let most = tertiary_fits e.tertiary tertiary in
    and_from (has_widths e) (is_sound_kind e && (ltb (e.tertiary / 2 ^ 8) (2 ^ 6) && ltb (e.tertiary % 2 ^ 8) (2 ^ 6)))
    widths
    (and_from (is_sound_kind e) (ltb (e.tertiary / 2 ^ 8) (2 ^ 6) && ltb (e.tertiary % 2 ^ 8) (2 ^ 6)) kind
    (and_from (ltb (e.tertiary / 2 ^ 8) (2 ^ 6)) (ltb (e.tertiary % 2 ^ 8) (2 ^ 6))
    (lt-ltb (e.tertiary / 2 ^ 8) (2 ^ 6) most.0) (lt-ltb (e.tertiary % 2 ^ 8) (2 ^ 6) most.1)))

elements_fit : (es : List Element) → list_all has_widths es ≡ true → list_all is_sound_kind es ≡ true
    → list_all has_sound_tertiary es ≡ true
    → list_all fits_bits es ≡ true
elements_fit [] widths kinds tertiaries = refl
elements_fit (e ∷ es) widths kinds tertiaries =
    let w = and_parts (has_widths e) (list_all has_widths es) widths in
    let k = and_parts (is_sound_kind e) (list_all is_sound_kind es) kinds in
    let t = and_parts (has_sound_tertiary e) (list_all has_sound_tertiary es) tertiaries in
    and_from (fits_bits e) (list_all fits_bits es) (element_fits e w.0 k.0 t.0) (elements_fit es w.1 k.1 t.1)

pub at_most : (n most : ℕ) → (most < n → ⊥) → n ≤ most
at_most n most h = ⊎_elim (λ (more : most < n). absurd (h more)) (λ (few : n ≤ most). few) (cases_lt most n)

can_write : (line : Record) → HasCharacters line → KeepsWidths line → (IsLong line → ⊥)
    → list_all is_sound_kind (elements_of line) ≡ true
    → list_all has_sound_tertiary (elements_of line) ≡ true → CanWriteLine line
can_write (weights layer prefix text es) key widths short kinds tertiaries = record {
  key = key;
  short = at_most (length text) 8 (λ more. short (inl more));
  elements =
      record { few = at_most (length es) 8 (λ more. short (inr more)); bits = elements_fit es widths kinds tertiaries };
}
can_write nothing key widths short kinds tertiaries = tt
can_write (class c k) key widths short kinds tertiaries = tt
can_write (mapping c ds x) key widths short kinds tertiaries = tt
can_write (compatibility c ds) key widths short kinds tertiaries = tt
can_write (range r) key widths short kinds tertiaries = tt
can_write (digit c v) key widths short kinds tertiaries = tt
can_write (setting s) key widths short kinds tertiaries = tt

-- ---- All lines

module _ (records : List Record) (accepted : AreAccepted records) where
  by_grammar : (P : Record → Type 0) → ((line : List ℕ) (given : Record) → record_of line ≡ Some given → P given)
      → All P records
  by_grammar P each = All-weaker IsSaid P (λ given said. each said.0 given said.1) records accepted.in_grammar

  at_line : (P : Record → Type 0) → All P records → (i : ℕ) → i < length records → P (record_at records i)
  at_line P all i lt = subst P (sym (unwrap_or-slice_get records i nothing)) (All-get_or P records i nothing lt all)

  pub accepted_can_write : All CanWriteLine records
  accepted_can_write =
      each_line CanWriteLine records (λ i lt.
      can_write (record_at records i) (at_line HasCharacters (by_grammar HasCharacters line_has_characters) i lt)
      (at_line KeepsWidths (by_grammar KeepsWidths line_keeps_widths) i lt)
      (λ long. accepted.keep_rules Limit i lt (inr long))
      (true_from_ne_false _ (accepted.keep_rules V1 i lt))
      (true_from_ne_false _ (accepted.keep_rules V4 i lt)))

  pub accepted_widths : All KeepsWidths records
  accepted_widths = by_grammar KeepsWidths line_keeps_widths

-- what the lines up to none break, all lines keep
unbroken : (breaks : List Record → Bool) → breaks [] ≡ false → (records : List Record)
    → ((i : ℕ) → i < length records → breaks (take (i + 1) records) ≡ true → ⊥)
    → breaks records ≡ false
unbroken breaks empty [] keeps = empty
unbroken breaks empty (line ∷ records) keeps =
    subst (λ lines. breaks lines ≡ false) (take_all (length records + 1) (line ∷ records) (omega arith))
    (false_from_ne_true _ (keeps (length records) (omega arith)))

pub accepted_prefixes : (records : List Record) → AreAccepted records → breaks_prefixes records records ≡ false
accepted_prefixes records accepted = unbroken (breaks_prefixes records) refl records (accepted.keep_rules V10)

pub accepted_digits : (records : List Record) → AreAccepted records → breaks_digits records records ≡ false
accepted_digits records accepted = unbroken (breaks_digits records) refl records (accepted.keep_rules V11)

-- ---- What the lines take together

within : (taken : List Record → ℕ) (most : ℕ) → taken [] ≤ most → (records : List Record)
    → ((i : ℕ) → i < length records → most < taken (take (i + 1) records) → ⊥)
    → taken records ≤ most
within taken most empty [] keeps = empty
within taken most empty (line ∷ records) keeps =
    subst (λ (ls : List Record). taken ls ≤ most) (take_all (length records + 1) (line ∷ records) (omega arith))
    (at_most _ most (keeps (length records) (omega arith)))

pub accepted_elements : (records : List Record) → AreAccepted records → sum_by element_room records ≤ 520000
accepted_elements records accepted =
    within (sum_by element_room) 520000 (omega arith) records
    (λ i lt over. accepted.keep_rules Limit i lt (inl (inr (inr (inl over)))))

pub accepted_texts : (records : List Record) → AreAccepted records → count_by is_beside records ≤ 3600
accepted_texts records accepted =
    within (count_by is_beside) 3600 (omega arith) records
    (λ i lt over. accepted.keep_rules Limit i lt (inl (inr (inr (inr (inl over))))))

no_block : (block_of : ℕ → ℕ) → blocks_in block_of [] ≡ 0
unfolding different
no_block block_of = refl

pub accepted_wide : (records : List Record) → AreAccepted records → blocks_in wide_block records ≤ 700
accepted_wide records accepted =
    within (blocks_in wide_block) 700 (omega (arith, no_block wide_block)) records
    (λ i lt over. accepted.keep_rules Limit i lt (inl (inl over)))

pub accepted_narrow : (records : List Record) → AreAccepted records → blocks_in narrow_block records ≤ 11000
accepted_narrow records accepted =
    within (blocks_in narrow_block) 11000 (omega (arith, no_block narrow_block)) records
    (λ i lt over. accepted.keep_rules Limit i lt (inl (inr (inl over))))
