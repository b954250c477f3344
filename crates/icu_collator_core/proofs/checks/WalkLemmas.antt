-- What the units of keys come to, where their characters are folded one after another.
use Rattle.std.proofs.Common.{◌≡◌, ◌↔◌, ℕ, ℤ, Bool, true, false, cond, ◌&&◌, List, [], ◌∷◌, Option, Some, None, refl, ap, sym, subst, ◌∙◌}
use Rattle.std.specs.Bool.{IsTrue}
use Rattle.std.specs.Prelude.{fold}
use Rattle.std.specs.List.{Contains}
use Rattle.std.specs.Option.{option_map}
use Rattle.std.proofs.lemmas.Bool.{and_from, and_parts, false≢true}
use Rattle.std.proofs.lemmas.Option.{none-some, same_Some}
use Rattle.icu_char16trie.specs.KeyFolds.{AreFolded}
use Rattle.icu_normalizer_core.specs.BuiltIn.{is_within}
use Rattle.icu_collator_core.specs.declared.check.walks.Reading.{Reading}
use Rattle.icu_collator_core.specs.declared.check.walks.Reading.TheVariants.{Whole, Half, Broken}
use Rattle.icu_collator_core.specs.ContextRules.{KeysPass, characters_of_units, is_upper_half, is_lower_half, joined_halves}
use Rattle.icu_collator_core.specs.KeyTexts.{by_fold, read_unit, tells}

module _ {A : Type 0} where
  -- what whole characters are folded to
  abbrev pub whole : Reading A → Option A
  whole (Whole folded) = Some folded
  whole (Half folded upper) = None
  whole Broken = None

  pub told_whole : (passes : A → Bool) (reading : Reading A) (folded : A) → whole reading ≡ Some folded → tells passes reading ≡ passes folded
  told_whole passes (Whole a) folded e = ap passes (same_Some a folded e)
  told_whole passes (Half a upper) folded e = absurd (none-some folded e)
  told_whole passes Broken folded e = absurd (none-some folded e)

  pub whole_told : (passes : A → Bool) (reading : Reading A) → IsTrue (tells passes reading) → (folded : A) × (whole reading ≡ Some folded) × IsTrue (passes folded)
  whole_told passes (Whole a) e = (a, refl, e)
  whole_told passes (Half a upper) e = absurd (false≢true e)
  whole_told passes Broken e = absurd (false≢true e)

module _ {A : Type 0} (onward : A → ℕ → A) where
  abbrev Read : Reading A → List ℕ → Reading A
  Read = fold (read_unit onward)

  broken_stays : (key : List ℕ) → whole (Read Broken key) ≡ None
  broken_stays [] = refl
  broken_stays (unit ∷ key) = broken_stays key

  one_more : (a : A) (c : ℕ) (rest : Option (List ℕ))
      → option_map (fold onward (onward a c)) rest ≡ option_map (fold onward a) (option_map (λ cs. c ∷ cs) rest)
  one_more a c None = refl
  one_more a c (Some cs) = refl

  -- one unit at the end
  at_end : (a : A) (unit : ℕ) (half upper : Bool)
      → whole (cond half (cond upper (Half a unit) Broken) (Whole (onward a unit))) ≡ option_map (fold onward a) (cond half None (Some (unit ∷ [])))
  at_end a unit true true = refl
  at_end a unit true false = refl
  at_end a unit false upper = refl

  -- two halves, or what doesn't join
  joined : (a : A) (c : ℕ) (rest : List ℕ) (both : Bool)
      → whole (Read (Whole (onward a c)) rest) ≡ option_map (fold onward (onward a c)) (characters_of_units rest)
      → whole (Read (cond both (Whole (onward a c)) Broken) rest)
      ≡ option_map (fold onward a) (cond both (option_map (λ cs. c ∷ cs) (characters_of_units rest)) None)
  joined a c rest true so_far = so_far ∙ one_more a c (characters_of_units rest)
  joined a c rest false so_far = broken_stays rest

  -- a half with the unit after it
  with_next : (a : A) (unit next : ℕ) (rest : List ℕ) (upper : Bool) → is_upper_half unit ≡ upper
      → whole (Read (Whole (onward a (joined_halves unit next))) rest)
      ≡ option_map (fold onward (onward a (joined_halves unit next))) (characters_of_units rest)
      → whole (Read (read_unit onward (cond upper (Half a unit) Broken) next) rest)
      ≡ option_map (fold onward a)
      (cond (is_upper_half unit && is_lower_half next) (option_map (λ cs. joined_halves unit next ∷ cs) (characters_of_units rest)) None)
  with_next a unit next rest true e so_far = joined a (joined_halves unit next) rest (is_upper_half unit && is_lower_half next) so_far
  with_next a unit next rest false e so_far =
      broken_stays rest
      ∙ ap (λ b. option_map (fold onward a)
      (cond (b && is_lower_half next) (option_map (λ cs. joined_halves unit next ∷ cs) (characters_of_units rest)) None)) (sym e)

  two_units : (a : A) (unit next : ℕ) (rest : List ℕ) (half : Bool)
      → whole (Read (Whole (onward a unit)) (next ∷ rest)) ≡ option_map (fold onward (onward a unit)) (characters_of_units (next ∷ rest))
      → whole (Read (Whole (onward a (joined_halves unit next))) rest)
      ≡ option_map (fold onward (onward a (joined_halves unit next))) (characters_of_units rest)
      → whole (Read (read_unit onward (cond half (cond (is_upper_half unit) (Half a unit) Broken) (Whole (onward a unit))) next) rest)
      ≡ option_map (fold onward a)
      (cond half
      (cond (is_upper_half unit && is_lower_half next) (option_map (λ cs. joined_halves unit next ∷ cs) (characters_of_units rest)) None)
      (option_map (λ cs. unit ∷ cs) (characters_of_units (next ∷ rest))))
  two_units a unit next rest true single both = with_next a unit next rest (is_upper_half unit) refl both
  two_units a unit next rest false single both = single ∙ one_more a unit (characters_of_units (next ∷ rest))

  -- units come to what their characters are folded to, if they are whole characters
  pub spelled_whole : (a : A) (key : List ℕ) → whole (Read (Whole a) key) ≡ option_map (fold onward a) (characters_of_units key)
  unfolding characters_of_units
  spelled_whole a [] = refl
  spelled_whole a (unit ∷ []) = at_end a unit (is_within 0xd800 0xdfff unit) (is_upper_half unit)
  spelled_whole a (unit ∷ next ∷ rest) =
      two_units a unit next rest (is_within 0xd800 0xdfff unit) (spelled_whole (onward a unit) (next ∷ rest))
      (spelled_whole (onward a (joined_halves unit next)) rest)

  text_of : (a folded : A) (spelled : Option (List ℕ)) → option_map (fold onward a) spelled ≡ Some folded
      → (cs : List ℕ) × (spelled ≡ Some cs) × (fold onward a cs ≡ folded)
  text_of a folded None e = absurd (none-some folded e)
  text_of a folded (Some cs) e = (cs, refl, same_Some (fold onward a cs) folded e)

  -- a key that passes spells characters that do, and the other way round
  pub text_told : (passes : A → Bool) (a : A) (key : List ℕ) → IsTrue (tells passes (Read (Whole a) key))
      → (cs : List ℕ) × (characters_of_units key ≡ Some cs) × IsTrue (passes (fold onward a cs))
  text_told passes a key e =
      let w = whole_told passes (Read (Whole a) key) e in
      let t = text_of a w.0 (characters_of_units key) (sym (spelled_whole a key) ∙ w.1) in
      (t.0, t.1, subst (λ folded. IsTrue (passes folded)) (sym t.2) w.2)

  pub text_tells : (passes : A → Bool) (a : A) (key cs : List ℕ) → characters_of_units key ≡ Some cs
      → tells passes (Read (Whole a) key) ≡ passes (fold onward a cs)
  text_tells passes a key cs e =
      told_whole passes (Read (Whole a) key) (fold onward a cs) (spelled_whole a key ∙ ap (option_map (fold onward a)) e)

  pub keys_told : (passes : A → Bool) (start : A) (units : List ℕ) (readings : List (Reading A × ℤ)) (all : Bool)
      → AreFolded (read_unit onward) (Whole start) units readings
      → (IsTrue all ↔ ((one : Reading A × ℤ) → Contains readings one → IsTrue (tells passes one.0)))
      → IsTrue all ↔ KeysPass (by_fold passes onward start) units
  keys_told passes start units readings all folded told = (
    λ t. (
      folded.trie,
      λ key number maps.
          let reading = Read (Whole start) key in
          text_told passes start key (told.0 t (reading, number) ((folded.said reading number).1 (key, maps, refl))),
    ),
    λ pass. told.1 (λ one in-readings.
        let from = (folded.said one.0 one.1).0 in-readings in
        let text = pass.1 from.0 one.1 from.1 in
        subst (λ reading. IsTrue (tells passes reading)) from.2 (text_tells passes start from.0 text.0 text.1 ∙ text.2)),
  )

-- ---- Tests of all keys

module _ (units : List ℕ) where
  pub keys_pass_also : (p q : List ℕ → Bool) → ((cs : List ℕ) → IsTrue (p cs) → IsTrue (q cs)) → KeysPass p units → KeysPass q units
  keys_pass_also p q also pass =
      (pass.0, λ key number maps. let w = pass.1 key number maps in (w.0, w.1, also w.0 w.2))

  pub keys_pass_both : (p q : List ℕ → Bool) → KeysPass p units → KeysPass q units → KeysPass (λ cs. p cs && q cs) units
  keys_pass_both p q pass other = (
    pass.0,
    λ key number maps.
        let w = pass.1 key number maps in
        let v = other.1 key number maps in
        let same = same_Some v.0 w.0 (sym v.1 ∙ w.1) in
        (w.0, w.1, and_from (p w.0) (q w.0) w.2 (subst (λ cs. IsTrue (q cs)) same v.2)),
  )

  -- tests that answer the same
  pub told_also : (p q : List ℕ → Bool) (all : Bool) → ((cs : List ℕ) → IsTrue (p cs) ↔ IsTrue (q cs)) → (IsTrue all ↔ KeysPass p units)
      → IsTrue all ↔ KeysPass q units
  told_also p q all same told = (
    λ t. keys_pass_also p q (λ cs. (same cs).0) (told.0 t),
    λ pass. told.1 (keys_pass_also q p (λ cs. (same cs).1) pass),
  )

  pub told_same : (p q : List ℕ → Bool) (all : Bool) → ((cs : List ℕ) → p cs ≡ q cs) → (IsTrue all ↔ KeysPass p units)
      → IsTrue all ↔ KeysPass q units
  told_same p q all same told =
      told_also p q all (λ cs. (λ t. sym (same cs) ∙ t, λ t. same cs ∙ t)) told

  -- a test of two parts
  pub parts_pass : (p q : List ℕ → Bool) → KeysPass (λ cs. p cs && q cs) units ↔ (KeysPass p units × KeysPass q units)
  parts_pass p q = (
    λ pass. (
      keys_pass_also (λ cs. p cs && q cs) p (λ cs t. (and_parts (p cs) (q cs) t).0) pass,
      keys_pass_also (λ cs. p cs && q cs) q (λ cs t. (and_parts (p cs) (q cs) t).1) pass,
    ),
    λ w. keys_pass_both p q w.0 w.1,
  )

-- what passes a test passes a weaker one
pub weaker_keys : (passes others : List ℕ → Bool) (units : List ℕ) → ((cs : List ℕ) → passes cs ≡ true → others cs ≡ true) → KeysPass passes units
    → KeysPass others units
weaker_keys passes others units weaker keys = keys_pass_also units passes others weaker keys
