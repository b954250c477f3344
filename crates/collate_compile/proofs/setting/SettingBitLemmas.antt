-- The bits of settings, read again.
use Rattle.std.proofs.Common.{◌≡◌, ℕ, ◌+◌, ◌*◌, ◌/◌, ◌%◌, ◌^◌, ◌≤◌, Bool, true, false, cond, eqb, List, refl, ap, ◌∙◌, arith}
use Rattle.icu_collator_types.specs.declared.options.AlternateHandling.{AlternateHandling}
use Rattle.icu_collator_types.specs.declared.options.AlternateHandling.TheVariants.{NonIgnorable, Shifted}
use Rattle.icu_collator_types.specs.declared.options.CollationCaseFirst.{CollationCaseFirst}
use Rattle.icu_collator_types.specs.declared.options.CollationCaseFirst.TheVariants.{False as NoCaseFirst, Lower, Upper}
use Rattle.icu_collator_types.specs.declared.options.FileSettings.{FileSettings}
use Rattle.icu_collator_types.specs.declared.options.MaxVariable.{MaxVariable}
use Rattle.icu_collator_types.specs.declared.options.MaxVariable.TheVariants.{Space, Punctuation, Symbol, Currency}
use Rattle.icu_collator_core.specs.declared.tables.metadata.CollationMetadata.{CollationMetadata}
use Rattle.icu_collator_core.specs.TableSettings.{case_first_of, has_bit, max_variable_of, settings_of}
use Rattle.collate_lines.specs.Record.{Record}
use Rattle.collate_rules.specs.Meaning as set
use Rattle.collate_compile.specs.Compiled.{AreSettingsOf}
use Rattle.collate_compile.specs.SettingBits.{alternate_bit, case_first_bits, max_variable_bits}

-- what packed settings are made of
pub record ArePacked (bits m t r d b s f : ℕ) : Type 0 where
  pub sum : bits ≡ m + (t * 8 + 16 + r * 32) + (d * 64 + b * 128) + s * 256 + f * 512
  pub max_variable : m ≤ 3
  pub tailored : t ≤ 1
  pub reordering : r ≤ 1
  pub dot_above : d ≤ 1
  pub backward : b ≤ 1
  pub alternate : s ≤ 1
  pub case_first : f ≤ 3

pub at_most_one : (b : Bool) → cond b 1 0 ≤ 1
at_most_one true = omega arith
at_most_one false = omega arith

pub at_most_three : (v : MaxVariable) → max_variable_bits v ≤ 3
at_most_three Space = omega arith
at_most_three Punctuation = omega arith
at_most_three Symbol = omega arith
at_most_three Currency = omega arith

pub alternate_most : (a : AlternateHandling) → alternate_bit a ≤ 1
alternate_most NonIgnorable = omega arith
alternate_most Shifted = omega arith

pub case_first_most : (f : CollationCaseFirst) → case_first_bits f ≤ 3
case_first_most NoCaseFirst = omega arith
case_first_most Lower = omega arith
case_first_most Upper = omega arith

is_one : (b : Bool) → eqb (cond b 1 0) 1 ≡ b
is_one true = refl
is_one false = refl

bit_is : (n : ℕ) (b : Bool) → n ≡ cond b 1 0 → eqb n 1 ≡ b
bit_is n b e = ap (λ (k : ℕ). eqb k 1) e ∙ is_one b

max_is : (n : ℕ) (v : MaxVariable) → n ≡ max_variable_bits v
    → cond (eqb n 0) Space (cond (eqb n 1) Punctuation (cond (eqb n 2) Symbol Currency)) ≡ v
max_is n v e = ap (λ (k : ℕ). cond (eqb k 0) Space (cond (eqb k 1) Punctuation (cond (eqb k 2) Symbol Currency))) e
    ∙ by v
  where
    by : (w : MaxVariable) → cond (eqb (max_variable_bits w) 0) Space
        (cond (eqb (max_variable_bits w) 1) Punctuation (cond (eqb (max_variable_bits w) 2) Symbol Currency)) ≡ w
    by Space = refl
    by Punctuation = refl
    by Symbol = refl
    by Currency = refl

alternate_is : (n : ℕ) (a : AlternateHandling) → n ≡ alternate_bit a → cond (eqb n 1) Shifted NonIgnorable ≡ a
alternate_is n a e = ap (λ (k : ℕ). cond (eqb k 1) Shifted NonIgnorable) e ∙ by a
  where
    by : (w : AlternateHandling) → cond (eqb (alternate_bit w) 1) Shifted NonIgnorable ≡ w
    by NonIgnorable = refl
    by Shifted = refl

case_first_is : (n k : ℕ) (f : CollationCaseFirst) → n ≡ case_first_bits f % 2 → k ≡ case_first_bits f / 2
    → cond (eqb n 1) (cond (eqb k 1) Upper Lower) NoCaseFirst ≡ f
case_first_is n k f e g = ap (λ (i : ℕ). cond (eqb i 1) (cond (eqb k 1) Upper Lower) NoCaseFirst) e
    ∙ ap (λ (j : ℕ). cond (eqb (case_first_bits f % 2) 1) (cond (eqb j 1) Upper Lower) NoCaseFirst) g ∙ by f
  where
    by : (w : CollationCaseFirst) → cond (eqb (case_first_bits w % 2) 1)
        (cond (eqb (case_first_bits w / 2) 1) Upper Lower) NoCaseFirst ≡ w
    by NoCaseFirst = refl
    by Lower = refl
    by Upper = refl

module _ (bits m t r d b s f : ℕ) (packed : ArePacked bits m t r d b s f) where
  bit_3 : bits / 2 ^ 3 % 2 ≡ t
  bit_3 = omega (arith, packed.sum, packed.max_variable, packed.tailored)

  bit_4 : bits / 2 ^ 4 % 2 ≡ 1
  bit_4 = omega (arith, packed.sum, packed.max_variable, packed.tailored)

  bit_5 : bits / 2 ^ 5 % 2 ≡ r
  bit_5 = omega (arith, packed.sum, packed.max_variable, packed.tailored, packed.reordering)

  bit_6 : bits / 2 ^ 6 % 2 ≡ d
  bit_6 = omega (arith, packed.sum, packed.max_variable, packed.tailored, packed.reordering, packed.dot_above)

  bit_7 : bits / 2 ^ 7 % 2 ≡ b
  bit_7 = omega (
    arith,
    packed.sum,
    packed.max_variable,
    packed.tailored,
    packed.reordering,
    packed.dot_above,
    packed.backward,
  )

  bit_8 : bits / 2 ^ 8 % 2 ≡ s
  bit_8 = omega (
    arith,
    packed.sum,
    packed.max_variable,
    packed.tailored,
    packed.reordering,
    packed.dot_above,
    packed.backward,
    packed.alternate,
  )

  two_low : bits % 4 ≡ m
  two_low = omega (arith, packed.sum, packed.max_variable)

  bits_high : bits / 2 ^ 9 ≡ f
  bits_high = omega (
    arith,
    packed.sum,
    packed.max_variable,
    packed.tailored,
    packed.reordering,
    packed.dot_above,
    packed.backward,
    packed.alternate,
  )

  bit_9 : bits / 2 ^ 9 % 2 ≡ f % 2
  bit_9 = ap (λ (n : ℕ). n % 2) bits_high

  bit_10 : bits / 2 ^ 10 % 2 ≡ f / 2
  bit_10 = omega (arith, bits_high, packed.case_first)

  pub tailored_bit : (w : Bool) → t ≡ cond w 1 0 → has_bit 3 bits ≡ w
  tailored_bit w e = bit_is (bits / 2 ^ 3 % 2) w (bit_3 ∙ e)

  pub diacritics_bit : has_bit 4 bits ≡ true
  diacritics_bit = bit_is (bits / 2 ^ 4 % 2) true bit_4

  pub reordering_bit : (w : Bool) → r ≡ cond w 1 0 → has_bit 5 bits ≡ w
  reordering_bit w e = bit_is (bits / 2 ^ 5 % 2) w (bit_5 ∙ e)

  pub dot_above_bit : (w : Bool) → d ≡ cond w 1 0 → has_bit 6 bits ≡ w
  dot_above_bit w e = bit_is (bits / 2 ^ 6 % 2) w (bit_6 ∙ e)

  pub backward_bit : (w : Bool) → b ≡ cond w 1 0 → has_bit 7 bits ≡ w
  backward_bit w e = bit_is (bits / 2 ^ 7 % 2) w (bit_7 ∙ e)

  pub settings_bits : (settings : FileSettings) → m ≡ max_variable_bits settings.max_variable
      → s ≡ alternate_bit settings.alternate_handling → f ≡ case_first_bits settings.case_first
      → (metadata : CollationMetadata) → metadata.bits ≡ bits → settings_of metadata ≡ settings
  settings_bits settings e g h metadata is =
      ap (λ (n : ℕ). settings_of (record { bits = n })) is
      ∙ ap (λ (a : AlternateHandling). packed_as a (case_first_of bits) (max_variable_of bits))
      (alternate_is (bits / 2 ^ 8 % 2) settings.alternate_handling (bit_8 ∙ g))
      ∙ ap (λ (c : CollationCaseFirst). packed_as settings.alternate_handling c (max_variable_of bits))
      (case_first_is (bits / 2 ^ 9 % 2) (bits / 2 ^ 10 % 2) settings.case_first (bit_9 ∙ ap (λ (n : ℕ). n % 2) h)
      (bit_10 ∙ ap (λ (n : ℕ). n / 2) h))
      ∙ ap (packed_as settings.alternate_handling settings.case_first)
      (max_is (bits % 4) settings.max_variable (two_low ∙ e))
    where
      packed_as : AlternateHandling → CollationCaseFirst → MaxVariable → FileSettings
      packed_as a c v = record { alternate_handling = a; case_first = c; max_variable = v }

-- what is packed is read again, and nothing of it lost
pub settings_are : (lines : List Record) (m t r d b s f : ℕ) (settings : FileSettings)
    (is_tailored is_reordering dot_above backward : Bool)
    → m ≡ max_variable_bits settings.max_variable → t ≡ cond is_tailored 1 0 → r ≡ cond is_reordering 1 0
    → d ≡ cond dot_above 1 0 → b ≡ cond backward 1 0
    → s ≡ alternate_bit settings.alternate_handling → f ≡ case_first_bits settings.case_first
    → settings ≡ set.settings_of lines → dot_above ≡ set.set_to set.dot_above_in false lines
    → backward ≡ set.set_to set.backward_in false lines
    → AreSettingsOf lines (record {
      bits = m + (t * 8 % 4294967296 + 16 + r * 32 % 4294967296) + (d * 64 % 4294967296 + b * 128 % 4294967296) + s * 256 % 4294967296 + f * 512 % 4294967296;
    })
settings_are lines m t r d b s f settings is_tailored is_reordering dot_above backward em et er ed eb es ef options
    dots backs =
    let m3 : m ≤ 3 = omega (arith, em, at_most_three settings.max_variable) in
    let t1 : t ≤ 1 = omega (arith, et, at_most_one is_tailored) in
    let r1 : r ≤ 1 = omega (arith, er, at_most_one is_reordering) in
    let d1 : d ≤ 1 = omega (arith, ed, at_most_one dot_above) in
    let b1 : b ≤ 1 = omega (arith, eb, at_most_one backward) in
    let s1 : s ≤ 1 = omega (arith, es, alternate_most settings.alternate_handling) in
    let f3 : f ≤ 3 = omega (arith, ef, case_first_most settings.case_first) in
    let bits : ℕ = m + (t * 8 % 4294967296 + 16 + r * 32 % 4294967296) + (d * 64 % 4294967296 + b * 128 % 4294967296) + s * 256 % 4294967296 + f * 512 % 4294967296 in
    let packed : ArePacked bits m t r d b s f = record {
      sum = omega arith;
      max_variable = m3;
      tailored = t1;
      reordering = r1;
      dot_above = d1;
      backward = b1;
      alternate = s1;
      case_first = f3;
    } in
    record {
      options = settings_bits bits m t r d b s f packed settings em es ef (record { bits = bits }) refl ∙ options;
      backward = backward_bit bits m t r d b s f packed backward eb ∙ backs;
      dot_above = dot_above_bit bits m t r d b s f packed dot_above ed ∙ dots;
      diacritics = diacritics_bit bits m t r d b s f packed;
    }
