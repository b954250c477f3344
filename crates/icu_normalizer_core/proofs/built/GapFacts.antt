-- Between what is built in: code points of which nothing is, and Hangul syllables.
use Rattle.std.proofs.Common.{◌≡◌, ℕ, ◌<◌, ◌≤◌, true, None, arith}
use Rattle.std.proofs.lemmas.Bool.{and_from, le-leb}
use Rattle.std.proofs.lemmas.Bool.Decides.{nat_tests}
use Rattle.std.specs.Prelude.{leb}
use Rattle.icu_normalizer_core.specs.BuiltIn.{built_in_class, built_in_step, is_syllable, singled_out}
use Rattle.icu_normalizer_core.specs.Plain.{IsNothingBuiltIn}

class_below_tibetan : (c : ℕ) → 0x345 ≤ c → c < 0xf71 → built_in_class c ≡ None
unfolding built_in_class
class_below_tibetan c h k = grind (arith, nat_tests)

step_below_tibetan : (c : ℕ) → 0x345 ≤ c → c < 0xf71 → built_in_step c ≡ None
unfolding built_in_step singled_out
step_below_tibetan c h k = grind (arith, nat_tests)

pub nothing_below_tibetan : (c : ℕ) → 0x345 ≤ c → c < 0xf71 → IsNothingBuiltIn c
nothing_below_tibetan c h k = (omega arith, class_below_tibetan c h k, step_below_tibetan c h k)

class_below_jamo : (c : ℕ) → 0xf82 ≤ c → c < 0x1100 → built_in_class c ≡ None
unfolding built_in_class
class_below_jamo c h k = grind (arith, nat_tests)

step_below_jamo : (c : ℕ) → 0xf82 ≤ c → c < 0x1100 → built_in_step c ≡ None
unfolding built_in_step singled_out
step_below_jamo c h k = grind (arith, nat_tests)

pub nothing_below_jamo : (c : ℕ) → 0xf82 ≤ c → c < 0x1100 → IsNothingBuiltIn c
nothing_below_jamo c h k = (omega arith, class_below_jamo c h k, step_below_jamo c h k)

class_below_kana : (c : ℕ) → 0x1200 ≤ c → c < 0x3099 → built_in_class c ≡ None
unfolding built_in_class
class_below_kana c h k = grind (arith, nat_tests)

step_below_kana : (c : ℕ) → 0x1200 ≤ c → c < 0x3099 → built_in_step c ≡ None
unfolding built_in_step singled_out
step_below_kana c h k = grind (arith, nat_tests)

pub nothing_below_kana : (c : ℕ) → 0x1200 ≤ c → c < 0x3099 → IsNothingBuiltIn c
nothing_below_kana c h k = (omega arith, class_below_kana c h k, step_below_kana c h k)

class_below_syllables : (c : ℕ) → 0x309b ≤ c → c < 0xac00 → built_in_class c ≡ None
unfolding built_in_class
class_below_syllables c h k = grind (arith, nat_tests)

step_below_syllables : (c : ℕ) → 0x309b ≤ c → c < 0xac00 → built_in_step c ≡ None
unfolding built_in_step singled_out
step_below_syllables c h k = grind (arith, nat_tests)

pub nothing_below_syllables : (c : ℕ) → 0x309b ≤ c → c < 0xac00 → IsNothingBuiltIn c
nothing_below_syllables c h k = (omega arith, class_below_syllables c h k, step_below_syllables c h k)

class_below_halfwidth : (c : ℕ) → 0xd7a4 ≤ c → c < 0xff9e → built_in_class c ≡ None
unfolding built_in_class
class_below_halfwidth c h k = grind (arith, nat_tests)

step_below_halfwidth : (c : ℕ) → 0xd7a4 ≤ c → c < 0xff9e → built_in_step c ≡ None
unfolding built_in_step singled_out
step_below_halfwidth c h k = grind (arith, nat_tests)

pub nothing_below_halfwidth : (c : ℕ) → 0xd7a4 ≤ c → c < 0xff9e → IsNothingBuiltIn c
nothing_below_halfwidth c h k = (omega arith, class_below_halfwidth c h k, step_below_halfwidth c h k)

class_past : (c : ℕ) → 0x10000 ≤ c → c < 0x110000 → built_in_class c ≡ None
unfolding built_in_class
class_past c h k = grind (arith, nat_tests)

step_past : (c : ℕ) → 0x10000 ≤ c → c < 0x110000 → built_in_step c ≡ None
unfolding built_in_step singled_out
step_past c h k = grind (arith, nat_tests)

pub nothing_past : (c : ℕ) → 0x10000 ≤ c → c < 0x110000 → IsNothingBuiltIn c
nothing_past c h k = (omega arith, class_past c h k, step_past c h k)

pub nothing_none : (code c : ℕ) → code ≤ c → c < code → IsNothingBuiltIn c
nothing_none code c h k = absurd (omega (arith, h, k))

pub syllable_within : (c : ℕ) → 0xac00 ≤ c → c < 0xd7a4 → is_syllable c ≡ true
syllable_within c h k = and_from (leb 0xac00 c) (leb c 0xd7a3) (le-leb 0xac00 c h) (le-leb c 0xd7a3 (omega (arith, k)))

pub syllable_none : (code c : ℕ) → code ≤ c → c < code → is_syllable c ≡ true
syllable_none code c h k = absurd (omega (arith, h, k))
