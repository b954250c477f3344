use Rattle.std.proofs.Common.{◌≡◌, ◌∷◌, ◌++◌, List, [], ℕ, true, rules, subst, sym}
use Rattle.icu_collator_core.specs.ElementLists.{unpacked}
use Rattle.icu_collator_core.specs.ElementTexts.{text_elements}
use Rattle.icu_collator_core.proofs.readings.StretchLemmas.{all_given, closed_elements, nothing_given, nothing_opened, one_given}
use Rattle.icu_collator_core.proofs.checked.CheckedTables.read_stretches.Goals as goal

pub loop-c-init : goal.loop-c-init
loop-c-init g c =
    let source = c.args.self.now in
    let cleared : c.replace_from.result ≡ true = search rules in
    let none : c.replace_from.new.self.items ≡ [] = c.replace_from.ensures cleared in
    let s = c.new-stretch.result in
    record {
      text = [];
      given = nothing_given source c.args.numeric g.I.Iterator.next_gives c.args.chars c.into_iter-c-iterator.result c.into_iter-c-iterator.ensures.into_iter_gives;
      read =
          nothing_opened source c.args.numeric s.chars.items s.count s.class s.is_rough c.replace_from.new.self.items c.new-stretch.ensures.chars c.new-stretch.ensures.count
          c.new-stretch.ensures.class none;
    }

pub loop-c-preserved : goal.loop-c-preserved
loop-c-preserved g c =
    let source = c.args.self.now in
    let h = c.loop-c.invariant in
    let on : c.in_ok-is_read.is_read ≡ true = search rules in
    record {
      text = h.text ++ c.in-Some.c ∷ [];
      given = one_given source c.args.numeric g.I.Iterator.next_gives c.args.chars c.loop-c.c-iterator c.next.new.self h.text c.in-Some.c h.given c.in-Some.ensures.steps;
      read = c.in_ok-is_read.ensures on h.text h.read;
    }

pub returns : goal.returns
returns g c = λ whole cs spelled.
    let source = c.args.self.now in
    let h = c.loop-c.invariant in
    let is : cs ≡ h.text = all_given source c.args.numeric g.I.Iterator.next_gives c.args.chars c.loop-c.c-iterator c.next.new.self h.text h.given c.in-None.ensures.steps cs spelled in
    let items = c.close.new.elements.items in
    subst (λ (l : List ℕ). unpacked items ≡ text_elements source c.args.numeric l) (sym is)
    (closed_elements source c.args.numeric h.text c.close.new.stretch.class items (c.in_ok-is_read-2.ensures whole h.text h.read))
