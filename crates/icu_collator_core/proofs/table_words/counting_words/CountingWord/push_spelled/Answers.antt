use Rattle.std.proofs.Common.{◌++◌, [], ◌∷◌, ◌∙◌, ap}
use Rattle.std.specs.Option.{unwrap_or}
use Rattle.icu_collator_types.specs.declared.elements.Element.{Element}
use Rattle.icu_collator_core.specs.ElementLists.{unpacked}
use Rattle.icu_collator_core.specs.Pools.{elements_of_word}
use Rattle.icu_collator_core.specs.ReadWords.{default_by, table_word}
use Rattle.icu_collator_core.specs.TableMeaning.{pools_of}
use Rattle.icu_collator_core.proofs.lookups.AloneLemmas.{default_said, pushed_found, pushed_own}
use Rattle.icu_collator_core.proofs.lookups.PackedLemmas.{unpacked_more}
use Rattle.icu_collator_core.proofs.table_words.counting_words.CountingWord.push_spelled.Goals as goal

pub returns-in_ok-push-clause-elements : goal.returns-in_ok-push-clause-elements
returns-in_ok-push-clause-elements c =
    let own = default_by (table_word c.args.self) c.args.c in
    let between = c.push_elements.new.elements.items in
    pushed_own own c.in_ok-found.found (elements_of_word (pools_of c.args.self.source.now) c.args.word) (unpacked c.args.elements.now.items)
    (unpacked between) (unpacked c.push.new.self.items) c.in_ok-found.ensures.found c.in_ok-found.ensures.elements c.if-not-found.true
    (unpacked_more between c.push.new.self.items c.default_element.result c.in_ok-push.ensures.ok
    ∙ ap (λ (e : Element). unpacked between ++ e ∷ []) c.default_element.ensures.element)

pub returns-in_ok-push-clause-said : goal.returns-in_ok-push-clause-said
returns-in_ok-push-clause-said c = λ weights said.
    returns-in_ok-push-clause-elements c
    ∙ ap (λ es. unpacked c.args.elements.now.items ++ unwrap_or (elements_of_word (pools_of c.args.self.source.now) c.args.word) es) (default_said (table_word c.args.self) c.args.c weights said)

pub returns-else-not-found-clause-elements : goal.returns-else-not-found-clause-elements
returns-else-not-found-clause-elements c =
    pushed_found (default_by (table_word c.args.self) c.args.c) c.in_ok-found.found (elements_of_word (pools_of c.args.self.source.now) c.args.word) (unpacked c.args.elements.now.items)
    (unpacked c.push_elements.new.elements.items) c.in_ok-found.ensures.found c.in_ok-found.ensures.elements c.if-not-found.false

pub returns-else-not-found-clause-said : goal.returns-else-not-found-clause-said
returns-else-not-found-clause-said c = λ weights said.
    returns-else-not-found-clause-elements c
    ∙ ap (λ es. unpacked c.args.elements.now.items ++ unwrap_or (elements_of_word (pools_of c.args.self.source.now) c.args.word) es) (default_said (table_word c.args.self) c.args.c weights said)
