use Rattle.std.proofs.Common.{◌≡◌, ◌∙◌, ap, sym}
use Rattle.collate_sort.specs.Orders.{LineRule}
use Rattle.collate_merge.proofs.SourceLemmas.{below_line, follows_line, follows_none, left_behind}
use Rattle.collate_merge.proofs.StepLemmas.{accepted_by}
use Rattle.collate_merge.proofs.sources.Source.advance.Goals as goal

pub returns-then-self : goal.returns-then-self
returns-then-self g c = λ m all more same h.
    let left = c.in-Ok.ensures.read m all h.rest same (record { known = h.behind.known; separator = h.behind.separator; counted = h.behind.counted }) in
    record {
      follows = follows_none g.R.Read.remaining m all c.args.self.now c.read.new.self more h left c.if-self.true;
      left = left_behind g.R.Read.remaining m all c.args.self.now c.read.new.self more h left;
      fault = tt;
    }

pub returns-then-is_above : goal.returns-then-is_above
returns-then-is_above g c = λ m all more same h.
    let left = c.in-Ok.ensures.read m all h.rest same (record { known = h.behind.known; separator = h.behind.separator; counted = h.behind.counted }) in
    let accepted = accepted_by m c.args.order.now same.0 c.keep_rules.ensures in
    let previous_is : c.deref.result.now ≡ c.args.self.now.key.items = cc in
    record {
      follows = tt;
      left = tt;
      fault = below_line g.R.Read.remaining m all c.args.self.now c.read.new.self more h left accepted c.direction.result
          (c.direction.ensures ∙ sym (ap (λ (r : LineRule). r.direction) same.0)) c.deref.result.now c.deref-2.result.now previous_is c.deref-2.ensures.value c.if-self.false
          c.args.index c.is_above.result c.is_above.ensures c.if-is_above.true;
    }

pub returns : goal.returns
returns g c = λ m all more same h.
    let left = c.in-Ok.ensures.read m all h.rest same (record { known = h.behind.known; separator = h.behind.separator; counted = h.behind.counted }) in
    let accepted = accepted_by m c.args.order.now same.0 c.keep_rules.ensures in
    let previous_is : c.deref.result.now ≡ c.args.self.now.key.items = cc in
    record {
      follows = follows_line g.R.Read.remaining m all c.args.self.now c.read.new.self more h left accepted c.direction.result
          (c.direction.ensures ∙ sym (ap (λ (r : LineRule). r.direction) same.0)) c.deref.result.now c.deref-2.result.now previous_is c.deref-2.ensures.value c.if-self.false
          c.is_above.result c.is_above.ensures c.if-is_above.false;
      left = left_behind g.R.Read.remaining m all c.args.self.now c.read.new.self more h left;
      fault = tt;
    }
