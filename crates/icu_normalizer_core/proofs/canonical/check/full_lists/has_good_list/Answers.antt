use Rattle.std.proofs.Common.{rules, ◌≡◌, ℕ, ◌<◌, ◌≤◌, true, false, ◌&&◌, length, sym, ap, ◌∙◌, arith}
use Rattle.std.proofs.lemmas.Bool.{and_left}
use Rattle.icu_normalizer_core.specs.CanonicalFaults.{begins_with_mark}
use Rattle.icu_normalizer_core.specs.CanonicalLists.{canonical_of}
use Rattle.icu_normalizer_core.specs.CanonicalMeaning.{lists_of}
use Rattle.icu_normalizer_core.specs.CanonicalWords.{is_inside, states_list}
use Rattle.icu_normalizer_core.specs.Settled.{left_items}
use Rattle.icu_normalizer_core.proofs.faults.FaultLemmas.{bool_through, long_bad, mark_bad, none_begins, none_bad, other_bad}
use Rattle.icu_normalizer_core.proofs.settling.SettledLemmas.{left_count}
use Rattle.icu_normalizer_core.proofs.canonical.check.full_lists.has_good_list.Goals as goal
use Rattle.icu_normalizer_core.proofs.canonical.check.full_lists.has_good_list.Goals.{else-states_list-via-then-states_list+else-begins_with_mark, else-states_list-via-else-states_list}

pub returns-then-full-gt8 : goal.returns-then-full-gt8
returns-then-full-gt8 c =
    let is = c.full_start-full.ensures in
    let nine : length c.full_start-full.result.characters ≡ 9 = search rules in
    let count = left_count c.full_start-full.result nine in
    let long : 8 < length (left_items c.full_start-full.result) = let h = c.if-full-gt8.true in omega (arith, count, h) in
    long_bad (lists_of c.args.tables.now) c.args.c c.full_start-full.result is long

pub returns-then-begins_with_mark : goal.returns-then-begins_with_mark
returns-then-begins_with_mark c =
    let is = c.full_start-full.ensures in
    let states : states_list ((lists_of c.args.tables.now).word c.args.c) ≡ true =
    ap (λ (w : ℕ). states_list w) (sym c.word-word.ensures.word) ∙ sym c.states_list.ensures ∙ c.if-states_list.true in
    mark_bad (lists_of c.args.tables.now) c.args.c c.full_start-full.result is states (sym c.begins_with_mark.ensures ∙ c.if-begins_with_mark.true)

pub returns : goal.returns
returns c =
    let is = c.full_start-full.ensures in
    let nine : length c.full_start-full.result.characters ≡ 9 = search rules in
    let count = left_count c.full_start-full.result nine in
    let short : length (left_items c.full_start-full.result) ≤ 8 = let h = c.if-full-gt8.false in omega (arith, count, h) in
    let inside : is_inside c.args.tables.now.scalars16 c.args.tables.now.scalars24 ((lists_of c.args.tables.now).word c.args.c) ≡ true =
    ap (λ (w : ℕ). is_inside c.args.tables.now.scalars16 c.args.tables.now.scalars24 w) (sym c.word-word.ensures.word) ∙ sym c.is_inside.ensures ∙ c.if-not-is_inside.false in
    let canonical = canonical_of (lists_of c.args.tables.now) in
    let begins : (states_list ((lists_of c.args.tables.now).word c.args.c) && begins_with_mark canonical (canonical.full c.args.c)) ≡ false = elim c.else-states_list.branch [
      | else-states_list-via-then-states_list+else-begins_with_mark w ↦
          none_begins (lists_of c.args.tables.now) c.args.c c.full_start-full.result is (sym w.begins_with_mark.ensures ∙ w.if-begins_with_mark.false)
      | else-states_list-via-else-states_list w ↦
          and_left (states_list ((lists_of c.args.tables.now).word c.args.c)) (begins_with_mark canonical (canonical.full c.args.c))
          (ap (λ (v : ℕ). states_list v) (sym c.word-word.ensures.word) ∙ sym c.states_list.ensures ∙ w.if-states_list.false)
    ] in
    bool_through c.is_left.result (λ all. none_bad (lists_of c.args.tables.now) c.args.c c.full_start-full.result inside short begins is all)
    (λ other. other_bad (lists_of c.args.tables.now) c.args.c c.full_start-full.result is other) c.is_left.ensures
