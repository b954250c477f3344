-- What is read of units is read of them with more after them, too.
use Rattle.std.proofs.Common.{◌≡◌, ℕ, ◌+◌, ◌-◌, ◌*◌, ◌/◌, ◌%◌, ◌^◌, ◌<◌, ◌≤◌, suc, zero, ltb, leb, ◌==◌, Bool, true, false, if◌then◌else◌, ◌++◌, List, [], ◌∷◌, length, slice_get, Option, Some, None, refl, ap, ◌∙◌, sym, arith, ⊎_elim, length-append}
use Rattle.std.proofs.lemmas.Bool.{cases_lt}
use Rattle.std.proofs.lemmas.Option.{none-some}
use Rattle.icu_char16trie.specs.UnitNumbers.{after, with_unit, two_units, final_number, intermediate_number, delta, landing}
use Rattle.icu_char16trie.specs.UnitSteps.{entry_at, entry_target, opened}
use Rattle.icu_char16trie.specs.UnitMaps.{IsNode, final, valued, bare}
use Rattle.icu_char16trie.specs.declared.cells.Number.{Number}
use Rattle.icu_char16trie.specs.declared.node.Entry.{Entry}
use Rattle.icu_char16trie.specs.declared.node.Target.{Target}
use Rattle.icu_char16trie.specs.declared.node.Target.TheVariants.{Value, Node}
use Rattle.icu_char16trie.specs.declared.node.State.{State}
use Rattle.icu_char16trie.specs.declared.node.State.TheVariants as state
use Rattle.icu_char16trie.proofs.Cursors.SearchLemmas.{if_ltb, if_not_ltb}

-- what is there first is there then
abbrev pub Stays : {A : Type 0} → Option A → Option A → Type 0
Stays {A = A} first second = (x : A) → first ≡ Some x → second ≡ Some x

stays-after : {A B : Type 0} (a b : Option A) (f g : A → Option B) → Stays a b → ((x : A) → Stays (f x) (g x)) → Stays (after a f) (after b g)
stays-after None b f g h k = λ y e. absurd (none-some y e)
stays-after (Some x) b f g h k = λ y e. ap (λ found. after found g) (h x refl) ∙ k x y e

stays-if : {A : Type 0} (test : Bool) (a b p q : Option A) → Stays a b → Stays p q → Stays (if test then a else p) (if test then b else q)
stays-if true a b p q h k = h
stays-if false a b p q h k = k

stays-same : {A : Type 0} (a : Option A) → Stays a a
stays-same a = λ x e. e

pub get_stays : (units more : List ℕ) (index : ℕ) → Stays (slice_get units index) (slice_get (units ++ more) index)
get_stays [] more index = λ x e. absurd (none-some x e)
get_stays (unit ∷ units) more zero = λ x e. e
get_stays (unit ∷ units) more (suc index) = get_stays units more index

module _ (units more : List ℕ) where
  abbrev longer : List ℕ
  longer = units ++ more

  stays-with : (high index : ℕ) → Stays (with_unit units high index) (with_unit longer high index)
  stays-with high index = stays-after (slice_get units index) (slice_get longer index)
      (λ low. Some (record { value = high * 2 ^ 16 + low; end = index + 1 })) (λ low. Some (record { value = high * 2 ^ 16 + low; end = index + 1 }))
      (get_stays units more index) (λ low. stays-same (Some (record { value = high * 2 ^ 16 + low; end = index + 1 })))

  stays-two : (index : ℕ) → Stays (two_units units index) (two_units longer index)
  stays-two index = stays-after (slice_get units index) (slice_get longer index)
      (λ high. with_unit units high (index + 1)) (λ high. with_unit longer high (index + 1)) (get_stays units more index) (λ high. stays-with high (index + 1))

  pub final_stays : (lead index : ℕ) → Stays (final_number units lead index) (final_number longer lead index)
  final_stays lead index = stays-if (ltb lead 0x4000) _ _ _ _ (stays-same (Some (record { value = lead; end = index })))
      (stays-if (ltb lead 0x7fff) _ _ _ _ (stays-with (lead - 0x4000) index) (stays-two index))

  pub intermediate_stays : (lead index : ℕ) → Stays (intermediate_number units lead index) (intermediate_number longer lead index)
  intermediate_stays lead index = stays-if (ltb lead 0x4040) _ _ _ _ (stays-same (Some (record { value = lead / 2 ^ 6 - 1; end = index })))
      (stays-if (ltb lead 0x7fc0) _ _ _ _ (stays-with (lead / 2 ^ 6 - 0x101) index) (stays-two index))

  abbrev delta_from : List ℕ → ℕ → ℕ → Option Number
  delta_from units index lead =
      if ltb lead 0xfc00 then Some (record { value = lead; end = index + 1 })
      else (if ltb lead 0xffff then with_unit units (lead - 0xfc00) (index + 1) else two_units units (index + 1))

  pub delta_stays : (index : ℕ) → Stays (delta units index) (delta longer index)
  delta_stays index = stays-after (slice_get units index) (slice_get longer index) (delta_from units index) (delta_from longer index) (get_stays units more index)
      (λ lead. stays-if (ltb lead 0xfc00) _ _ _ _ (stays-same (Some (record { value = lead; end = index + 1 })))
      (stays-if (ltb lead 0xffff) _ _ _ _ (stays-with (lead - 0xfc00) (index + 1)) (stays-two (index + 1))))

  pub landing_stays : (jump : Number) → Stays (landing units jump) (landing longer jump)
  landing_stays jump = λ index e.
      let count = length-append units more in
      ⊎_elim
      (λ (less : jump.end + jump.value < length units).
      if_ltb (jump.end + jump.value) (length longer) (Some (jump.end + jump.value)) None (omega (arith, less, count))
      ∙ sym (if_ltb (jump.end + jump.value) (length units) (Some (jump.end + jump.value)) None less) ∙ e)
      (λ (past : length units ≤ jump.end + jump.value).
      absurd (none-some index (sym (if_not_ltb (jump.end + jump.value) (length units) (Some (jump.end + jump.value)) None past) ∙ e)))
      (cases_lt (jump.end + jump.value) (length units))

  abbrev entry_of : ℕ → ℕ → Number → Option Entry
  entry_of unit lead number = Some (record { unit = unit; is_value = leb 0x8000 lead; number = number })

  pub entry_stays : (index : ℕ) → Stays (entry_at units index) (entry_at longer index)
  entry_stays index = stays-after (slice_get units index) (slice_get longer index)
      (λ unit. after (slice_get units (index + 1)) (λ lead. after (final_number units (lead % 0x8000) (index + 2)) (entry_of unit lead)))
      (λ unit. after (slice_get longer (index + 1)) (λ lead. after (final_number longer (lead % 0x8000) (index + 2)) (entry_of unit lead)))
      (get_stays units more index)
      (λ unit. stays-after (slice_get units (index + 1)) (slice_get longer (index + 1))
      (λ lead. after (final_number units (lead % 0x8000) (index + 2)) (entry_of unit lead))
      (λ lead. after (final_number longer (lead % 0x8000) (index + 2)) (entry_of unit lead))
      (get_stays units more (index + 1))
      (λ lead. stays-after (final_number units (lead % 0x8000) (index + 2)) (final_number longer (lead % 0x8000) (index + 2)) (entry_of unit lead) (entry_of unit lead)
      (final_stays (lead % 0x8000) (index + 2)) (λ number. stays-same (entry_of unit lead number))))

  abbrev node_at : ℕ → Option Target
  node_at index = Some (Node index)

  pub target_stays : (entry : Entry) → Stays (entry_target units entry) (entry_target longer entry)
  target_stays entry = stays-if entry.is_value _ _ _ _ (stays-same (Some (Value entry.number.value)))
      (stays-after (landing units entry.number) (landing longer entry.number) node_at node_at (landing_stays entry.number) (λ index. stays-same (node_at index)))

  abbrev branch_at : ℕ → ℕ → Option State
  branch_at index last = Some (state.Branch (record { count = last + 1; index = index + 1 }))

  pub opened_stays : (kind index : ℕ) → Stays (opened units kind index) (opened longer kind index)
  opened_stays kind index = stays-if (leb 0x30 kind) _ _ _ _ (stays-same (Some (state.Match (record { left = kind - 0x2f; index = index }))))
      (stays-if (kind == 0) _ _ _ _
      (stays-after (slice_get units index) (slice_get longer index) (branch_at index) (branch_at index) (get_stays units more index) (λ last. stays-same (branch_at index last)))
      (stays-same (Some (state.Branch (record { count = kind + 1; index = index })))))

  pub node_stays : {index : ℕ} {value : Option ℕ} {next : Option State} → IsNode units index value next → IsNode longer index value next
  node_stays (final index lead number e high reads) =
      final index lead number (get_stays units more index lead e) high (final_stays (lead - 0x8000) (index + 1) number reads)
  node_stays (valued index lead number next e low high reads opens) =
      valued index lead number next (get_stays units more index lead e) low high (intermediate_stays lead (index + 1) number reads) (opened_stays (lead % 0x40) number.end next opens)
  node_stays (bare index lead next e low opens) = bare index lead next (get_stays units more index lead e) low (opened_stays lead (index + 1) next opens)
