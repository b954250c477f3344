-- The bits of compressible leads.
use Rattle.std.proofs.Common.{◌≡◌, ℕ, zero, suc, ◌+◌, ◌-◌, ◌*◌, ◌/◌, ◌%◌, ◌^◌, ◌<◌, ◌≤◌, ⊎_elim, Bool, true, false, cond, ◌&&◌, ◌||◌, eqb, List, [], ◌∷◌, ◌++◌, length, take, take_all, get_or, Option, Some, None, sym, ap, ◌∙◌, arith, length-append, add-one}
use Rattle.std.specs.List.{list_all}
use Rattle.std.proofs.Math.ListN.{get_or-append}
use Rattle.std.proofs.Math.Nat.{div-div-eq-div-mul, pow-le-pow_right}
use Rattle.std.proofs.Math.Seq.{get_or-append_seam}
use Rattle.std.proofs.lemmas.Bool.{and_parts, cases_lt, eqb-true, false_from_ne_true}
use Rattle.std.proofs.lemmas.Bool.Decides.{nat_tests}
use Rattle.std.proofs.lemmas.List.{take-append-le}
use Rattle.std.proofs.lemmas.Option.{slice_get-get_or, slice_get_past}
use Rattle.icu_collator_core.specs.TableSettings.{has_bit, has_lead_bit, is_compressible_in as is_compressible_by, is_usually_compressible}
use Rattle.icu_collator_core.specs.SettingRules.{is_sound_group, never_falls}
use Rattle.icu_collator_core.specs.WeightRules.{is_letter_lead}
use Rattle.collate_lines.specs.Record.{Record}
use Rattle.collate_rules.specs.KeptSettings.{AreSoundlySet}
use Rattle.collate_rules.specs.Meaning.{is_compressible_in}
use Rattle.collate_rules.specs.SettingLines.{groups_of, numeric_of}

-- ## One bit more, below those that there are

pub bit_below : (bits : ℕ) (b : Bool) → has_bit 0 (bits * 2 + cond b 1 0) ≡ b
bit_below bits true = grind (arith, nat_tests)
bit_below bits false = grind (arith, nat_tests)

pub bit_above : (k bits more : ℕ) → more ≤ 1 → has_bit (suc k) (bits * 2 + more) ≡ has_bit k bits
bit_above k bits more h = ap (λ (n : ℕ). eqb (n % 2) 1) half
  where
    power : 2 ^ suc k ≡ 2 * 2 ^ k
    power = omega arith

    first : (bits * 2 + more) / 2 ≡ bits
    first = omega (arith, h)

    half : (bits * 2 + more) / 2 ^ suc k ≡ bits / 2 ^ k
    half =
        ap (λ (n : ℕ). (bits * 2 + more) / n) power ∙ sym (div-div-eq-div-mul (bits * 2 + more) 2 (2 ^ k))
        ∙ ap (λ (n : ℕ). n / 2 ^ k) first

-- the bits so far are those of the highest of 16 leads
pub record AreHighest (is_compressible : ℕ → Bool) (part i bits : ℕ) : Type 0 where
  pub few : i ≤ 16
  pub small : bits < 2 ^ i
  pub bit : (k : ℕ) → k < i → has_bit k bits ≡ is_compressible (16 * part + (16 - i + k))

pub highest_none : (is_compressible : ℕ → Bool) (part : ℕ) → AreHighest is_compressible part 0 0
highest_none is_compressible part = record { few = omega arith; small = omega arith; bit = λ k h. absurd (omega arith) }

pub highest_small : (is_compressible : ℕ → Bool) (part i bits : ℕ) → AreHighest is_compressible part i bits → i < 16
    → bits < 2 ^ 15
highest_small is_compressible part i bits highest h =
    let two : 0 < 2 = omega arith in
    let most : i ≤ 15 = omega arith in
    let power : 2 ^ i ≤ 2 ^ 15 = pow-le-pow_right {n = 2} two {i = i} {j = 15} most in
    omega (arith, highest.small, power)

pub highest_more : (is_compressible : ℕ → Bool) (part i bits more lead : ℕ) (b : Bool)
    → AreHighest is_compressible part i bits → i < 16 → lead ≡ 16 * part + (15 - i)
    → b ≡ is_compressible lead → more ≡ cond b 1 0 → AreHighest is_compressible part (i + 1) (bits * 2 + more)
highest_more is_compressible part i bits more lead b highest h e f g = record {
  few = omega arith;
  small = rw add-one (omega (arith, highest.small, one, power));
  bit = by;
}
  where
    one_most : (c : Bool) → cond c 1 0 ≤ 1
    one_most true = omega arith
    one_most false = omega arith

    one : more ≤ 1
    one = omega (arith, g, one_most b)

    power : 2 ^ suc i ≡ 2 * 2 ^ i
    power = omega arith

    here : lead ≡ 16 * part + (16 - (i + 1) + 0)
    here = omega (arith, e)

    next : (k : ℕ) → 16 * part + (16 - i + k) ≡ 16 * part + (16 - (i + 1) + suc k)
    next k = omega arith

    by : (k : ℕ) → k < i + 1 → has_bit k (bits * 2 + more) ≡ is_compressible (16 * part + (16 - (i + 1) + k))
    by zero lt = ap (λ (n : ℕ). has_bit 0 (bits * 2 + n)) g ∙ bit_below bits b ∙ f ∙ ap is_compressible here
    by (suc k) lt = bit_above k bits more one ∙ highest.bit k (omega arith) ∙ ap is_compressible (next k)

pub highest_all : (is_compressible : ℕ → Bool) (part i bits : ℕ) → AreHighest is_compressible part i bits → 16 ≤ i
    → (index : ℕ) → index < 16 → has_bit index bits ≡ is_compressible (16 * part + index)
highest_all is_compressible part i bits highest h index lt =
    let last : 16 * part + (16 - i + index) ≡ 16 * part + index = omega (arith, highest.few) in
    highest.bit index (omega (arith, highest.few)) ∙ ap is_compressible last

-- ## Words of 16 bits after the groups

pub record AreParts (lines : List Record) (ends values : List ℕ) (parts : ℕ) : Type 0 where
  pub count : length values ≡ 4 + parts
  pub groups : take 4 values ≡ ends
  pub bits : (part index : ℕ) → part < parts → index < 16
      → has_bit index (get_or values (4 + part) 0) ≡ is_compressible_in lines (16 * part + index)

pub parts_none : (lines : List Record) (groups : List ℕ) → length groups ≡ 4 → AreParts lines groups groups 0
parts_none lines groups four = record {
  count = four;
  groups = take_all 4 groups (omega arith);
  bits = λ part index h k. absurd (omega arith);
}

pub parts_more : (lines : List Record) (groups values : List ℕ) (parts word : ℕ) → AreParts lines groups values parts
    → ((index : ℕ) → index < 16 → has_bit index word ≡ is_compressible_in lines (16 * parts + index))
    → AreParts lines groups (values ++ word ∷ []) (parts + 1)
parts_more lines groups values parts word so_far says = record {
  count = omega (arith, length-append values (word ∷ []), so_far.count);
  groups = take-append-le 4 values (word ∷ []) (omega (arith, so_far.count)) ∙ so_far.groups;
  bits = λ part index h k. ⊎_elim
      (λ (before : part < parts).
      let within : 4 + part < length values = omega (arith, so_far.count) in
      ap (has_bit index) (get_or-append values (word ∷ []) 0 (4 + part) within) ∙ so_far.bits part index before k)
      (λ (here : parts ≤ part).
      let same : part ≡ parts = omega arith in
      let last : 4 + part ≡ length values = omega (arith, so_far.count) in
      ap (has_bit index) (ap (λ (n : ℕ). get_or (values ++ word ∷ []) n 0) last ∙ get_or-append_seam values word [] 0)
      ∙ says index k ∙ ap (λ (n : ℕ). is_compressible_in lines (16 * n + index)) (sym same))
      (cases_lt part parts);
}

lead_below : (lead : ℕ) → (is_letter_lead lead || eqb lead 0xfe) ≡ true → lead < 256
lead_below lead h = grind (arith, nat_tests)

pub parts_all : (lines : List Record) (groups values : List ℕ) (parts : ℕ) → AreSoundlySet lines
    → AreParts lines groups values parts → parts ≡ 16
    → (lead : ℕ) → is_compressible_by values lead ≡ is_compressible_in lines lead
unfolding is_compressible_by
parts_all lines groups values parts sound all e lead =
    ap (λ (b : Bool). cond b (has_lead_bit values lead) (is_usually_compressible lead)) twenty
    ∙ ⊎_elim within past (cases_lt lead 256)
  where
    twenty : eqb (length values) 20 ≡ true
    twenty = let count : length values ≡ 20 = omega (arith, all.count) in ap (λ (n : ℕ). eqb n 20) count

    bit_at : Option ℕ → Bool
    bit_at o = elim o [ Some word ↦ has_bit (lead % 16) word | None ↦ false ]

    whole : 16 * (lead / 16) + lead % 16 ≡ lead
    whole = omega arith

    within : lead < 256 → has_lead_bit values lead ≡ is_compressible_in lines lead
    within h =
        ap bit_at (slice_get-get_or values (4 + lead / 16) 0 (omega (arith, all.count)))
        ∙ all.bits (lead / 16) (lead % 16) (omega arith) (omega arith)
        ∙ ap (is_compressible_in lines) whole

    past : 256 ≤ lead → has_lead_bit values lead ≡ is_compressible_in lines lead
    past h =
        ap bit_at (slice_get_past values (4 + lead / 16) (omega (arith, all.count)))
        ∙ sym (false_from_ne_true (is_compressible_in lines lead)
        (λ is. omega (arith, lead_below lead (sound.compressible lead is))))

-- there are four groups
pub four_groups : (lines : List Record) → AreSoundlySet lines → length (groups_of lines) ≡ 4
four_groups lines sound =
    let both = and_parts (eqb (length (groups_of lines)) 4 && list_all (is_sound_group (numeric_of lines))
    (groups_of lines)) (never_falls (groups_of lines)) sound.groups in
    eqb-true (length (groups_of lines)) 4
    (and_parts (eqb (length (groups_of lines)) 4)
    (list_all (is_sound_group (numeric_of lines)) (groups_of lines)) both.0).0
