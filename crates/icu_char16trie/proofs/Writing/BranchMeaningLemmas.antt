-- What units mean, and that it is what was laid in them: branches.
use Rattle.std.proofs.Common.{◌≡◌, ◌≢◌, ℕ, ℤ, suc, ◌+◌, ◌-◌, ◌/◌, ◌%◌, ◌<◌, ◌≤◌, ◌⊎◌, Bool, true, false, leb, List, [], ◌∷◌, ◌++◌, length, drop, slice_get, Option, Some, None, refl, ap, ◌∙◌, sym, subst, arith, inl, inr, ⊎_elim, length-append}
use Rattle.std.proofs.lemmas.List.{drop-drop, length-drop}
use Rattle.std.specs.Int.{cast_signed, w32}
use Rattle.icu_char16trie.specs.UnitNumbers.{after, final_number, delta, landing}
use Rattle.icu_char16trie.specs.UnitSteps.{entry_at, entry_target}
use Rattle.icu_char16trie.specs.UnitMaps.{Lists, last, here, later, Leads, listed, lower, upper, at_node}
use Rattle.icu_char16trie.specs.UnitGrammar.{IsSound, spot, sound_last, sound_value, sound_jump, sound_halves}
use Rattle.icu_char16trie.specs.UnitGrammar as grammar
use Rattle.icu_char16trie.specs.UnitNumberForms.{number_form, delta_form}
use Rattle.icu_char16trie.specs.UnitLayouts.{LaidPart, node, follows, within, Lays}
use Rattle.icu_char16trie.specs.UnitLayouts as layout
use Rattle.icu_char16trie.specs.declared.cells.Number.{Number}
use Rattle.icu_char16trie.specs.declared.node.Branch.{Branch}
use Rattle.icu_char16trie.specs.declared.node.Entry.{Entry}
use Rattle.icu_char16trie.specs.declared.node.Target.{Target}
use Rattle.icu_char16trie.specs.declared.node.Target.TheVariants.{Value, Node}
use Rattle.icu_char16trie.proofs.Cursors.SearchLemmas.{if_ltb}
use Rattle.icu_char16trie.proofs.Cursors.BranchLemmas.{some-same}
use Rattle.icu_char16trie.proofs.Writing.NumberFormLemmas.{unit_at, behind_unit, reads_number, reads_intermediate, reads_delta}
use Rattle.icu_char16trie.proofs.Writing.NodeMeaningLemmas.{SpotMeans, FollowsMeans, TargetMeans, HasGroup, WithinMeans, final_means, valued_means, bare_means, run_follows, few_follows, many_follows}

lists_of : (units : List ℕ) {branch : Branch} {unit : ℕ} {target : Target} → Leads units branch unit target → branch.count ≤ 5 → Lists units (branch.count - 1) branch.index unit target
lists_of units (listed branch unit target few lists) bound = lists
lists_of units (lower branch unit middle index jump target many at reads less lands rest) bound = absurd (omega (arith, many, bound))
lists_of units (upper branch unit middle jump target many at reads more rest) bound = absurd (omega (arith, many, bound))

last_only : (units : List ℕ) {entries index unit : ℕ} {target : Target} → Lists units entries index unit target → entries ≡ 0 → (slice_get units index ≡ Some unit) × (target ≡ Node (index + 1))
last_only units (last index unit at) none = (at, refl)
last_only units (here entries index unit entry target e same to) none = absurd (omega (arith, none))
last_only units (later entries index unit entry target e other rest) none = absurd (omega (arith, none))

entry_case : (units : List ℕ) {entries index unit : ℕ} {target : Target} → Lists units entries index unit target → 0 < entries
    → (entry : Entry) × (entry_at units index ≡ Some entry)
    × (((entry.unit ≡ unit) × (entry_target units entry ≡ Some target)) ⊎ ((entry.unit ≢ unit) × Lists units (entries - 1) entry.number.end unit target))
entry_case units (last index unit at) some = absurd (omega (arith, some))
entry_case units (here entries index unit entry target e same to) some = (entry, e, inl (same, to))
entry_case units (later entries index unit entry target e other rest) some =
    (entry, e, inr (other, subst (λ entries. Lists units entries entry.number.end unit target) (omega arith) rest))

module _ (units : List ℕ) (index low high unit : ℕ) (rest : List ℕ) (pairs : List (List ℕ × ℤ)) (e : drop index units ≡ unit ∷ rest) (from : low ≤ unit) (below : unit < high)
    (means : SpotMeans units (at_node (index + 1)) pairs) where
  pub last_means : WithinMeans units (record { count = 1; index = index }) low high ((unit, pairs) ∷ [])
  last_means =
      let at : slice_get units index ≡ Some unit = unit_at units index unit rest e in
      let branch : Branch = record { count = 1; index = index } in
      let few : branch.count ≤ 5 = omega arith in
      record {
        leads = λ other target h.
            let o = last_only units (lists_of units h few) (omega arith) in
            (pairs, inl (some-same unit other (sym at ∙ o.0), refl), subst (λ target. TargetMeans units target pairs) (sym o.1) means);
        leads_to = λ other others h. ⊎_elim
            (λ same. (
              Node (index + 1),
              subst (λ other. Leads units branch other (Node (index + 1))) same.0
                  (listed branch unit (Node (index + 1)) few (subst (λ entries. Lists units entries index unit (Node (index + 1))) (omega arith) (last index unit at))),
              subst (λ pairs. SpotMeans units (at_node (index + 1)) pairs) same.1 means,
            ))
            (λ none. absurd none) h;
        bounds = λ other others h. ⊎_elim
            (λ same. (subst (λ unit. low ≤ unit) same.0 from, subst (λ unit. unit < high) same.0 below))
            (λ none. absurd none) h;
        some = omega arith;
        sound = sound_last branch low high unit (omega arith) at from below means.sound;
      }

module _ (units : List ℕ) (index low high unit : ℕ) (is_value : Bool) (number : Number) (target : Target) (pairs : List (List ℕ × ℤ)) (groups : List (ℕ × List (List ℕ × ℤ)))
    (at : entry_at units index ≡ Some (record { unit = unit; is_value = is_value; number = number }))
    (to : entry_target units (record { unit = unit; is_value = is_value; number = number }) ≡ Some target)
    (means : TargetMeans units target pairs) (from : low ≤ unit) (below : unit < high) (some : 0 < length groups) (few : length groups < 5)
    (inner : WithinMeans units (record { count = length groups; index = number.end }) (unit + 1) high groups) where
  entry_sound : (target : Target) → entry_target units (record { unit = unit; is_value = is_value; number = number }) ≡ Some target → TargetMeans units target pairs
      → IsSound units (grammar.within (record { count = length groups + 1; index = index }) low high)
  entry_sound (Value value) to means =
      sound_value (record { count = length groups + 1; index = index }) low high value (record { unit = unit; is_value = is_value; number = number })
      (omega (arith, some)) (omega (arith, few)) at to from below
      (subst (λ count. IsSound units (grammar.within (record { count = count; index = number.end }) (unit + 1) high)) (omega arith) inner.sound)
  entry_sound (Node index_to) to means =
      sound_jump (record { count = length groups + 1; index = index }) low high index_to (record { unit = unit; is_value = is_value; number = number })
      (omega (arith, some)) (omega (arith, few)) at to from below means.sound
      (subst (λ count. IsSound units (grammar.within (record { count = count; index = number.end }) (unit + 1) high)) (omega arith) inner.sound)

  entry_count : WithinMeans units (record { count = length groups + 1; index = index }) low high ((unit, pairs) ∷ groups)
  entry_count =
      let branch : Branch = record { count = length groups + 1; index = index } in
      let rest : Branch = record { count = length groups; index = number.end } in
      let entry : Entry = record { unit = unit; is_value = is_value; number = number } in
      let small : branch.count ≤ 5 = omega (arith, few) in
      let tiny : rest.count ≤ 5 = omega (arith, few) in
      let fewer : branch.count - 1 - 1 ≡ rest.count - 1 = omega arith in
      let more : suc (rest.count - 1) ≡ branch.count - 1 = omega (arith, some) in
      let positive : 0 < branch.count - 1 = omega (arith, some) in
      record {
        leads = λ other found h.
            let c = entry_case units (lists_of units h small) positive in
            let same : c.0 ≡ entry = some-same c.0 entry (sym c.1 ∙ at) in
            ⊎_elim
            (λ here. (
              pairs,
              inl (sym (ap (λ entry. entry.unit) same) ∙ here.0, refl),
              subst (λ target. TargetMeans units target pairs) (some-same target found (sym to ∙ ap (λ entry. entry_target units entry) (sym same) ∙ here.1)) means,
            ))
            (λ later.
            let lists : Lists units (rest.count - 1) number.end other found =
            subst (λ entries. Lists units entries number.end other found) fewer
            (subst (λ entry. Lists units (branch.count - 1 - 1) entry.number.end other found) same later.1) in
            let m = inner.leads other found (listed rest other found tiny lists) in
            (m.0, inr m.1, m.2))
            c.2;
        leads_to = λ other others h. ⊎_elim
            (λ same. (
              target,
              subst (λ other. Leads units branch other target) same.0
                  (listed branch unit target small (subst (λ entries. Lists units entries index unit target) more (here (rest.count - 1) index unit entry target at refl to))),
              subst (λ pairs. TargetMeans units target pairs) same.1 means,
            ))
            (λ later_has.
            let m = inner.leads_to other others later_has in
            let b = inner.bounds other others later_has in (
              m.0,
              listed branch other m.0 small (subst (λ entries. Lists units entries index other m.0) more
                  (later (rest.count - 1) index other entry m.0 at (λ same. omega (arith, same, b.0)) (lists_of units m.1 tiny))),
              m.2,
            )) h;
        bounds = λ other others h. ⊎_elim
            (λ same. (subst (λ unit. low ≤ unit) same.0 from, subst (λ unit. unit < high) same.0 below))
            (λ later_has. let b = inner.bounds other others later_has in (omega (arith, b.0, from), b.1)) h;
        some = omega arith;
        sound = entry_sound target to means;
      }

  pub entry_means : WithinMeans units (record { count = length {A = ℕ × List (List ℕ × ℤ)} ((unit, pairs) ∷ groups); index = index }) low high ((unit, pairs) ∷ groups)
  entry_means = subst (λ count. WithinMeans units (record { count = count; index = index }) low high ((unit, pairs) ∷ groups)) (omega arith) entry_count

group_left : (xs ys : List (ℕ × List (List ℕ × ℤ))) (unit : ℕ) (pairs : List (List ℕ × ℤ)) → HasGroup xs unit pairs → HasGroup (xs ++ ys) unit pairs
group_left [] ys unit pairs h = absurd h
group_left (x ∷ xs) ys unit pairs h = ⊎_elim (λ first. inl first) (λ rest. inr (group_left xs ys unit pairs rest)) h

group_right : (xs ys : List (ℕ × List (List ℕ × ℤ))) (unit : ℕ) (pairs : List (List ℕ × ℤ)) → HasGroup ys unit pairs → HasGroup (xs ++ ys) unit pairs
group_right [] ys unit pairs h = h
group_right (x ∷ xs) ys unit pairs h = inr (group_right xs ys unit pairs h)

group_either : (xs ys : List (ℕ × List (List ℕ × ℤ))) (unit : ℕ) (pairs : List (List ℕ × ℤ)) → HasGroup (xs ++ ys) unit pairs → HasGroup xs unit pairs ⊎ HasGroup ys unit pairs
group_either [] ys unit pairs h = inr h
group_either (x ∷ xs) ys unit pairs h =
    ⊎_elim (λ first. inl (inl first)) (λ rest. ⊎_elim (λ left. inl (inr left)) (λ right. inr right) (group_either xs ys unit pairs rest)) h

halves_case : (units : List ℕ) {branch : Branch} {unit : ℕ} {target : Target} → Leads units branch unit target → 5 < branch.count
    → (middle : ℕ) × (jump : Number) × (slice_get units branch.index ≡ Some middle) × (delta units (branch.index + 1) ≡ Some jump)
    × (((unit < middle) × ((index : ℕ) × (landing units jump ≡ Some index) × Leads units (record { count = branch.count / 2; index = index }) unit target))
    ⊎ ((middle ≤ unit) × Leads units (record { count = branch.count - branch.count / 2; index = jump.end }) unit target))
halves_case units (listed branch unit target few lists) many = absurd (omega (arith, few, many))
halves_case units (lower branch unit middle index jump target large at reads less lands rest) many = (middle, jump, at, reads, inl (less, (index, lands, rest)))
halves_case units (upper branch unit middle jump target large at reads more rest) many = (middle, jump, at, reads, inr (more, rest))

module _ (units : List ℕ) (index low high middle target_index count : ℕ) (jump : Number) (lowers uppers : List (ℕ × List (List ℕ × ℤ)))
    (at : slice_get units index ≡ Some middle) (reads : delta units (index + 1) ≡ Some jump) (lands : landing units jump ≡ Some target_index)
    (from : low < middle) (below : middle < high) (many : 5 < count) (lower_count : length lowers ≡ count / 2) (upper_count : length uppers ≡ count - count / 2)
    (lower_means : WithinMeans units (record { count = length lowers; index = target_index }) low middle lowers)
    (upper_means : WithinMeans units (record { count = length uppers; index = jump.end }) middle high uppers) where
  pub halves_means : WithinMeans units (record { count = count; index = index }) low high (lowers ++ uppers)
  halves_means =
      let branch : Branch = record { count = count; index = index } in
      record {
        leads = λ unit target h.
            let c = halves_case units h many in
            let same_middle : c.0 ≡ middle = some-same c.0 middle (sym c.2 ∙ at) in
            let same_jump : c.1 ≡ jump = some-same c.1 jump (sym c.3 ∙ reads) in
            ⊎_elim
            (λ down.
            let same_index : down.1.0 ≡ target_index = some-same down.1.0 target_index (sym down.1.1 ∙ ap (λ jump. landing units jump) same_jump ∙ lands) in
            let m = lower_means.leads unit target
            (subst (λ count. Leads units (record { count = count; index = target_index }) unit target) (sym lower_count)
            (subst (λ index. Leads units (record { count = count / 2; index = index }) unit target) same_index down.1.2)) in
            (m.0, group_left lowers uppers unit m.0 m.1, m.2))
            (λ up.
            let m = upper_means.leads unit target
            (subst (λ count. Leads units (record { count = count; index = jump.end }) unit target) (sym upper_count)
            (subst (λ jump. Leads units (record { count = count - count / 2; index = jump.end }) unit target) same_jump up.1)) in
            (m.0, group_right lowers uppers unit m.0 m.1, m.2))
            c.4;
        leads_to = λ unit pairs h. ⊎_elim
            (λ down.
            let m = lower_means.leads_to unit pairs down in
            let b = lower_means.bounds unit pairs down in (
              m.0,
              lower branch unit middle target_index jump m.0 many at reads b.1 lands
                  (subst (λ count. Leads units (record { count = count; index = target_index }) unit m.0) lower_count m.1),
              m.2,
            ))
            (λ up.
            let m = upper_means.leads_to unit pairs up in
            let b = upper_means.bounds unit pairs up in (
              m.0,
              upper branch unit middle jump m.0 many at reads b.0
                  (subst (λ count. Leads units (record { count = count; index = jump.end }) unit m.0) upper_count m.1),
              m.2,
            ))
            (group_either lowers uppers unit pairs h);
        bounds = λ unit pairs h. ⊎_elim
            (λ down. let b = lower_means.bounds unit pairs down in (b.0, omega (arith, b.1, below)))
            (λ up. let b = upper_means.bounds unit pairs up in (omega (arith, b.0, from), b.1))
            (group_either lowers uppers unit pairs h);
        some = let e = length-append lowers uppers in omega (arith, e, many, lower_count, upper_count);
        sound = sound_halves branch low high middle target_index jump many at reads lands from below
            (subst (λ count. IsSound units (grammar.within (record { count = count; index = target_index }) low middle)) lower_count lower_means.sound)
            (subst (λ count. IsSound units (grammar.within (record { count = count; index = jump.end }) middle high)) upper_count upper_means.sound);
      }

-- a jump lands as far after its number as it says
module _ (units : List ℕ) (end distance : ℕ) (rest : List ℕ) (e : drop end units ≡ rest) (short : distance < length rest) where
  lands_at : landing units (record { value = distance; end = end }) ≡ Some (end + distance)
  lands_at =
      let l = sym (length-drop end units) ∙ ap length e in
      let inside : end + distance < length units = omega (arith, l, short) in
      if_ltb (end + distance) (length units) (Some (end + distance)) None inside

  lands_on : drop (end + distance) units ≡ drop distance rest
  lands_on = sym (drop-drop distance end units) ∙ ap (λ xs. drop distance xs) e

abbrev entry_some : ℕ → ℕ → Number → Option Entry
entry_some unit lead number = Some (record { unit = unit; is_value = leb 0x8000 lead; number = number })

entry_is : (units : List ℕ) (index unit lead : ℕ) (number : Number) → slice_get units index ≡ Some unit → slice_get units (index + 1) ≡ Some lead
    → final_number units (lead % 0x8000) (index + 2) ≡ Some number → entry_at units index ≡ Some (record { unit = unit; is_value = leb 0x8000 lead; number = number })
entry_is units index unit lead number at next reads =
    ap (λ found. after found (λ unit. after (slice_get units (index + 1)) (λ lead. after (final_number units (lead % 0x8000) (index + 2)) (λ number. entry_some unit lead number)))) at
    ∙ ap (λ found. after found (λ lead. after (final_number units (lead % 0x8000) (index + 2)) (λ number. entry_some unit lead number))) next
    ∙ ap (λ found. after found (λ number. entry_some unit lead number)) reads

-- what was laid in units is what they mean
abbrev pub Meaning : List ℕ → ℕ → LaidPart → Type 0
Meaning units index (node pairs) = SpotMeans units (at_node index) pairs
Meaning units index (follows kind pairs) = FollowsMeans units index kind pairs
Meaning units index (within low high groups) = WithinMeans units (record { count = length groups; index = index }) low high groups

leb_true : (m n : ℕ) → m ≤ n → leb m n ≡ true
leb_true m n h = grind arith

leb_false : (m n : ℕ) → n < m → leb m n ≡ false
leb_false m n h = grind arith

module _ (units : List ℕ) (index low high unit : ℕ) (rest : List ℕ) (groups : List (ℕ × List (List ℕ × ℤ))) (from : low ≤ unit) (below : unit < high)
    (some : 0 < length groups) (few : length groups < 5) where
  value_means : (number : ℕ) → drop index units ≡ unit ∷ (number_form 0x8000 number ++ rest)
      → ((end : ℕ) → drop end units ≡ rest → WithinMeans units (record { count = length groups; index = end }) (unit + 1) high groups)
      → WithinMeans units (record { count = length {A = ℕ × List (List ℕ × ℤ)} ((unit, ([], cast_signed w32 number) ∷ []) ∷ groups); index = index }) low high ((unit, ([], cast_signed w32 number) ∷ []) ∷ groups)
  value_means number e inner =
      let r = reads_number units (index + 1) 0x8000 number rest (behind_unit units index unit (number_form 0x8000 number ++ rest) e) in
      let value : Number = record { value = number; end = r.end } in
      let low_bits : r.lead ≡ (0x8000 + r.lead) % 0x8000 = let l = r.low in omega (arith, l) in
      let after_one : index + 1 + 1 ≡ index + 2 = omega arith in
      entry_means units index low high unit true value (Value number) (([], cast_signed w32 number) ∷ []) groups
      (entry_is units index unit (0x8000 + r.lead) value (unit_at units index unit (number_form 0x8000 number ++ rest) e) r.at
      (ap (λ lead. final_number units lead (index + 2)) (sym low_bits) ∙ ap (λ index. final_number units r.lead index) (sym after_one) ∙ r.reads)
      ∙ ap (λ is_value. Some (record { unit = unit; is_value = is_value; number = value })) (leb_true 0x8000 (0x8000 + r.lead) (omega arith)))
      refl refl from below some few (inner r.end r.left)

  jump_means : (distance : ℕ) (pairs : List (List ℕ × ℤ)) → distance < length rest → drop index units ≡ unit ∷ (number_form 0 distance ++ rest)
      → ((at : ℕ) → drop at units ≡ drop distance rest → SpotMeans units (at_node at) pairs)
      → ((end : ℕ) → drop end units ≡ rest → WithinMeans units (record { count = length groups; index = end }) (unit + 1) high groups)
      → WithinMeans units (record { count = length {A = ℕ × List (List ℕ × ℤ)} ((unit, pairs) ∷ groups); index = index }) low high ((unit, pairs) ∷ groups)
  jump_means distance pairs short e means inner =
      let r = reads_number units (index + 1) 0 distance rest (behind_unit units index unit (number_form 0 distance ++ rest) e) in
      let jump : Number = record { value = distance; end = r.end } in
      let low_bits : r.lead ≡ (0 + r.lead) % 0x8000 = let l = r.low in omega (arith, l) in
      let after_one : index + 1 + 1 ≡ index + 2 = omega arith in
      entry_means units index low high unit false jump (Node (r.end + distance)) pairs groups
      (entry_is units index unit (0 + r.lead) jump (unit_at units index unit (number_form 0 distance ++ rest) e) r.at
      (ap (λ lead. final_number units lead (index + 2)) (sym low_bits) ∙ ap (λ index. final_number units r.lead index) (sym after_one) ∙ r.reads)
      ∙ ap (λ is_value. Some (record { unit = unit; is_value = is_value; number = jump })) (let l = r.low in leb_false 0x8000 (0 + r.lead) (omega (arith, l))))
      (ap (λ found. after found (λ index. Some (Node index))) (lands_at units r.end distance rest r.left short))
      (means (r.end + distance) (lands_on units r.end distance rest r.left short)) from below some few (inner r.end r.left)

pub means : {laid : List ℕ} {part : LaidPart} → Lays laid part → (units : List ℕ) (index : ℕ) → drop index units ≡ laid → Meaning units index part
means (layout.final number rest) units index e = final_means units index number rest e
means (layout.valued kind number rest pairs low inner) units index e =
    let r = reads_intermediate units index kind number rest low e in
    valued_means units index kind number rest pairs r (means inner units r.end r.left)
means (layout.bare kind rest pairs low inner) units index e =
    bare_means units index kind rest pairs e low (means inner units (index + 1) (behind_unit units index kind rest e))
means (layout.run run rest pairs some short inner) units index e =
    run_follows units index run rest pairs some e (λ at left. means inner units at left)
means (layout.few kind rest groups some low count inner) units index e =
    few_follows units index kind groups some low count (means inner units index e)
means (layout.many most rest groups count inner) units index e =
    many_follows units index most rest groups count e (means inner units (index + 1) (behind_unit units index most rest e))
means (layout.last low high unit rest pairs from below inner) units index e =
    last_means units index low high unit rest pairs e from below (means inner units (index + 1) (behind_unit units index unit rest e))
means (layout.value low high unit number rest groups from below some few inner) units index e =
    value_means units index low high unit rest groups from below some few number e (λ end left. means inner units end left)
means (layout.jump low high unit distance rest pairs groups from below some few short to inner) units index e =
    jump_means units index low high unit rest groups from below some few distance pairs short e (λ at left. means to units at left) (λ end left. means inner units end left)
means (layout.halves low high middle distance rest lowers uppers from below many count short to inner) units index e =
    let r = reads_delta units (index + 1) distance rest (behind_unit units index middle (delta_form distance ++ rest) e) in
    let jump : Number = record { value = distance; end = r.end } in
    let total = length-append lowers uppers in
    halves_means units index low high middle (r.end + distance) (length (lowers ++ uppers)) jump lowers uppers
    (unit_at units index middle (delta_form distance ++ rest) e) r.reads (lands_at units r.end distance rest r.left short) from below
    (omega (arith, many, total)) (omega (arith, count, total)) (omega (arith, count, total))
    (means to units (r.end + distance) (lands_on units r.end distance rest r.left short)) (means inner units r.end r.left)
