use Rattle.std.proofs.Common.{◌≡◌, ◌||◌, not, sym, ap, ◌∙◌}
use Rattle.collate_lines.specs.Record.{Record, layer_of, said, set_by_line, weights, root, tailoring}
use Rattle.collate_lines.specs.Repeats.{is_second}
use Rattle.collate_lines.specs.Seen.{is_seen}
use Rattle.collate_lines.proofs.reading.KeyLemmas.{key_found}
use Rattle.collate_lines.proofs.reading.SeenLemmas.{root_seen, tailoring_seen, setting_seen}
use Rattle.collate_lines.proofs.seen.Seen.insert.Goals as goal

pub returns-in_ok-insert-in-Root-clause-new : goal.returns-in_ok-insert-in-Root-clause-new
returns-in_ok-insert-in-Root-clause-new c =
    let line = c.in-Weights in
    let key = c.in_ok-key-in-Weights in
    let says : said c.args.given.now ≡ weights root line.prefix.items line.text.items line.elements.items =
    ap said line.is ∙ ap (λ l. weights (layer_of l) line.prefix.items line.text.items line.elements.items) c.in-Root.is in
    c.in_ok-insert-in-Root.ensures.added
    ∙ ap not (key_found c.args.self.now.root key.key line.prefix.items line.text.items key.ensures.0 key.ensures.1 ∙ ap (is_seen c.args.self.now) (sym says))

pub returns-in_ok-insert-in-Root-clause-seen : goal.returns-in_ok-insert-in-Root-clause-seen
returns-in_ok-insert-in-Root-clause-seen c = λ other.
    let line = c.in-Weights in
    let key = c.in_ok-key-in-Weights in
    let done = c.in_ok-insert-in-Root in
    let says : said c.args.given.now ≡ weights root line.prefix.items line.text.items line.elements.items =
    ap said line.is ∙ ap (λ l. weights (layer_of l) line.prefix.items line.text.items line.elements.items) c.in-Root.is in
    root_seen c.args.self.now c.insert-in-Root.new.self key.key line.prefix.items line.text.items line.elements.items key.ensures.0 key.ensures.1 done.ensures.keys other
    ∙ ap (λ (s : Record). is_seen c.args.self.now other || is_second s other) (sym says)

pub returns-in_ok-insert-in-Tailoring-clause-new : goal.returns-in_ok-insert-in-Tailoring-clause-new
returns-in_ok-insert-in-Tailoring-clause-new c =
    let line = c.in-Weights in
    let key = c.in_ok-key-in-Weights in
    let says : said c.args.given.now ≡ weights tailoring line.prefix.items line.text.items line.elements.items =
    ap said line.is ∙ ap (λ l. weights (layer_of l) line.prefix.items line.text.items line.elements.items) c.in-Tailoring.is in
    c.in_ok-insert-in-Tailoring.ensures.added
    ∙ ap not (key_found c.args.self.now.tailoring key.key line.prefix.items line.text.items key.ensures.0 key.ensures.1 ∙ ap (is_seen c.args.self.now) (sym says))

pub returns-in_ok-insert-in-Tailoring-clause-seen : goal.returns-in_ok-insert-in-Tailoring-clause-seen
returns-in_ok-insert-in-Tailoring-clause-seen c = λ other.
    let line = c.in-Weights in
    let key = c.in_ok-key-in-Weights in
    let done = c.in_ok-insert-in-Tailoring in
    let says : said c.args.given.now ≡ weights tailoring line.prefix.items line.text.items line.elements.items =
    ap said line.is ∙ ap (λ l. weights (layer_of l) line.prefix.items line.text.items line.elements.items) c.in-Tailoring.is in
    tailoring_seen c.args.self.now c.insert-in-Tailoring.new.self key.key line.prefix.items line.text.items line.elements.items key.ensures.0 key.ensures.1 done.ensures.keys other
    ∙ ap (λ (s : Record). is_seen c.args.self.now other || is_second s other) (sym says)

pub returns-in_ok-insert-in-Set-clause-seen : goal.returns-in_ok-insert-in-Set-clause-seen
returns-in_ok-insert-in-Set-clause-seen c = λ other.
    let done = c.in_ok-insert-in-Set in
    setting_seen c.args.self.now c.insert-in-Set.new.self c.name.result done.field-0 (set_by_line c.in-Set.setting) c.name.ensures done.ensures.added done.ensures.keys other
    ∙ ap (λ (s : Record). is_seen c.args.self.now other || is_second s other) (sym (ap said c.in-Set.is))
