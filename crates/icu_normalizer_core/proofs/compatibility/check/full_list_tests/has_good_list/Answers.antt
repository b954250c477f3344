use Rattle.std.proofs.Common.{rules, ◌≡◌, ◌<◌, ◌≤◌, ℕ, List, length, take, flat_map, inl, inr, true, sym, ap, subst, ◌∙◌, arith}
use Rattle.std.proofs.lemmas.Bool.{false≢true}
use Rattle.icu_normalizer_core.specs.CanonicalMeaning.{lists_of}
use Rattle.icu_normalizer_core.specs.CanonicalWords.{is_inside, states_list}
use Rattle.icu_normalizer_core.specs.CompatibilityFaults.{HasOtherItem}
use Rattle.icu_normalizer_core.specs.Settled.{left_items}
use Rattle.icu_normalizer_core.specs.Words.{word_lists, full_in, is_inside_in}
use Rattle.icu_normalizer_core.proofs.settling.SettledLemmas.{left_count, cut_long}
use Rattle.icu_normalizer_core.proofs.full_lists.WordListLemmas.{found_good, start_whole}
use Rattle.icu_normalizer_core.proofs.compatibility.check.full_list_tests.has_good_list.Goals as goal

pub returns-then-full-gt8-clause-bad : goal.returns-then-full-gt8-clause-bad
returns-then-full-gt8-clause-bad c = λ bad.
    let nine : length c.full_start-full.result.characters ≡ 9 = search rules in
    let count = left_count c.full_start-full.result nine in
    let long : 8 < length (left_items c.full_start-full.result) = let h = c.if-full-gt8.true in omega (arith, count, h) in
    inr (inl (cut_long (left_items c.full_start-full.result) (full_in (word_lists c.args.words) c.args.c) c.full_start-full.ensures long))

pub returns-then-not-are_own_items-clause-bad : goal.returns-then-not-are_own_items-clause-bad
returns-then-not-are_own_items-clause-bad c = λ bad.
    let nine : length c.full_start-full.result.characters ≡ 9 = search rules in
    let count = left_count c.full_start-full.result nine in
    let short : length (left_items c.full_start-full.result) ≤ 8 = let h = c.if-full-gt8.false in omega (arith, count, h) in
    let other : HasOtherItem (word_lists c.args.words) (left_items c.full_start-full.result) = search rules in
    let whole = start_whole (left_items c.full_start-full.result) (full_in (word_lists c.args.words) c.args.c) c.full_start-full.ensures short in
    inr (inr (inl (subst (HasOtherItem (word_lists c.args.words)) (sym whole) other)))

pub returns-clause-good : goal.returns-clause-good
returns-clause-good c = λ good.
    let nine : length c.full_start-full.result.characters ≡ 9 = search rules in
    let count = left_count c.full_start-full.result nine in
    let short : length (left_items c.full_start-full.result) ≤ 8 = let h = c.if-full-gt8.false in omega (arith, count, h) in
    let inside : is_inside_in (word_lists c.args.words) c.args.c ≡ true =
    ap (λ (w : ℕ). is_inside c.args.words.scalars16.now c.args.words.scalars24.now w) (sym c.word-word.ensures.word) ∙ sym c.is_inside.ensures ∙ c.if-not-is_inside.false in
    let items : HasOtherItem (word_lists c.args.words) (left_items c.full_start-full.result) → ⊥ = search rules in
    found_good (lists_of c.args.tables.now) (word_lists c.args.words) c.args.c (left_items c.full_start-full.result) (record {
      inside = inside;
      is = c.full_start-full.ensures;
      short = short;
      items = items;
      begins = λ b. false≢true (sym c.if-is_bad_start.false ∙ c.is_bad_start.ensures.1 (b.0, ap (λ (w : ℕ). states_list w) c.word-word.ensures.word ∙ b.1, b.2));
      same = c.is.ensures.same.0 good ∙ c.joined_start.ensures ∙ ap (λ (xs : List ℕ). take 9 (flat_map (full_in (word_lists c.args.words)) xs)) c.full_list.ensures;
    })
