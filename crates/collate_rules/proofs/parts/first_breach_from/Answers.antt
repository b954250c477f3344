use Rattle.std.proofs.Common.{◌≡◌, ◌+◌, ◌<◌, take, List, ℕ, refl, subst, sym, map, ◌∙◌, ap, arith}
use Rattle.std.proofs.lemmas.Bool.{false≢true}
use Rattle.std.specs.Fn.{FnReturnsAt}
use Rattle.collate_lines.specs.declared.rule.Rule.{Rule}
use Rattle.collate_lines.specs.declared.record.Record.{Record as Line}
use Rattle.collate_lines.specs.Record.{said}
use Rattle.collate_rules.specs.declared.canonical_part.CanonicalPart.{CanonicalPart}
use Rattle.collate_rules.specs.declared.canonical_parts.CanonicalParts.{CanonicalParts}
use Rattle.collate_rules.specs.Breaches.{Breach, TellsBreach}
use Rattle.collate_rules.specs.CanonicalParts.{in_full, IsShort, SaysSame}
use Rattle.collate_rules.proofs.lookups.RuleLookupLemmas.{All-map_at}
use Rattle.collate_rules.proofs.offenders.BreachLemmas.{breach_at, unbroken_at, unbroken_past, none_at_end}
use Rattle.collate_rules.proofs.offenders.PartRuleLemmas.{All-front, told, unbroken_front}
use Rattle.collate_rules.proofs.parts.first_breach_from.Goals as goal
use Rattle.collate_rules.proofs.parts.first_breach_from.Goals.{in-Some+in_ok-more+in_ok-is_broken+else-is_broken, in_default}

pub of_lines-requires : goal.of_lines-requires
of_lines-requires g c =
    All-front IsShort c.args.records.now _ c.args.count (ap (λ (n : ℕ). take n c.args.records.now) (omega arith)) c.requires.canonical

pub canonical_part-requires : goal.canonical_part-requires
canonical_part-requires g c =
    All-map_at IsShort said c.args.records.now c.args.records.now c.loop-i.i c.index-records-i.result refl c.loop-i-test.true c.index-records-i.is c.requires.canonical

pub loop-i-init : goal.loop-i-init
loop-i-init g c = record {
  same = subst (λ (l : List Line). SaysSame (map in_full c.in_ok-parts.parts.list.items) (map said l)) (ap (λ (n : ℕ). take n c.args.records.now) (omega arith)) c.in_ok-parts.ensures.whole;
  unbroken = λ rule clear t.
      unbroken_front rule t.same t.none c.in_ok-parts.parts.list.items c.args.records.now _ c.args.count (ap (λ (n : ℕ). take n c.args.records.now) (omega arith)) clear c.in_ok-parts.ensures.whole;
  before = λ rule clear t. clear;
}

pub returns : goal.returns
returns g c = λ rule clear t. none_at_end (Breach rule) c.args.records.now c.loop-i.i (c.loop-i.invariant.before rule clear t) c.loop-i-test.false

pub returns-then-is_broken : goal.returns-then-is_broken
returns-then-is_broken g c = λ rule clear t.
    let tested : FnReturnsAt g.B.Fn c.args.breaks c.in_ok-more.more c.breaks.result =
    record { shown = _; shows = refl {A = CanonicalParts}; says = record { met = c.breaks.ensures } } in
    let tells = told rule (FnReturnsAt g.B.Fn c.args.breaks) t c.loop-i.parts.list.items c.in_ok-more.more c.in-Some.part c.breaks.result c.in_ok-is_broken.is_broken
    c.in_ok-more.ensures tested c.in_ok-is_broken.was (c.loop-i.invariant.unbroken rule clear t) in
    breach_at (Breach rule) t.same c.loop-i.parts.list.items c.in_ok-more.more.list.items c.in-Some.part c.args.records.now c.loop-i.i _
    (c.loop-i.invariant.before rule clear t) c.loop-i-test.true c.index-records-i.is c.loop-i.invariant.same c.in-Some.ensures
    c.in_ok-more.ensures (tells.0 c.if-is_broken.true)

pub loop-i-preserved : goal.loop-i-preserved
loop-i-preserved g c =
    elim c.match-canonical_part.branch [
      | in-Some+in_ok-more+in_ok-is_broken+else-is_broken w ↦
          let tested : FnReturnsAt g.B.Fn c.args.breaks w.in_ok-more.more w.breaks.result =
          record { shown = _; shows = refl {A = CanonicalParts}; says = record { met = w.breaks.ensures } } in
          let items = w.in_ok-more.more.list.items in
          let unbroken : (rule : Rule) → ((k : ℕ) → k < c.args.count → Breach rule (take (k + 1) (map said c.args.records.now)) → ⊥)
          → TellsBreach rule (FnReturnsAt g.B.Fn c.args.breaks) → Breach rule (map in_full items) → ⊥ = λ rule clear t breach.
          let tells = told rule (FnReturnsAt g.B.Fn c.args.breaks) t c.loop-i.parts.list.items w.in_ok-more.more w.in-Some.part w.breaks.result w.in_ok-is_broken.is_broken
          w.in_ok-more.ensures tested w.in_ok-is_broken.was (c.loop-i.invariant.unbroken rule clear t) in
          false≢true (sym w.if-is_broken.false ∙ tells.1 breach) in
          let same = (unbroken_at (λ _. ⊥) (λ parts others s b. b) c.loop-i.parts.list.items items w.in-Some.part c.args.records.now c.loop-i.i _
          (λ k below b. b) c.loop-i-test.true c.index-records-i.is c.loop-i.invariant.same w.in-Some.ensures w.in_ok-more.ensures (λ b. b)).0 in
          let e : items ≡ c.match-canonical_part.parts.list.items = ap (λ (p : CanonicalParts). p.list.items) (sym w.parts-is) in
          record {
            same = subst (λ (fs : List CanonicalPart). SaysSame (map in_full fs) (map said (take (c.loop-i.i + 1) c.args.records.now))) e same;
            unbroken = λ rule clear t. subst (λ (fs : List CanonicalPart). Breach rule (map in_full fs) → ⊥) e (unbroken rule clear t);
            before = λ rule clear t. (unbroken_at (Breach rule) t.same c.loop-i.parts.list.items items w.in-Some.part c.args.records.now c.loop-i.i _
                (c.loop-i.invariant.before rule clear t) c.loop-i-test.true c.index-records-i.is c.loop-i.invariant.same w.in-Some.ensures w.in_ok-more.ensures (unbroken rule clear t)).1;
          }
      | in_default w ↦
          let e = ap (λ (p : CanonicalParts). p.list.items) (sym w.parts-is) in
          let same = (unbroken_past (λ _. ⊥) (λ parts others s b. b) c.loop-i.parts.list.items c.args.records.now c.loop-i.i _
          (λ k below b. b) c.loop-i-test.true c.index-records-i.is c.loop-i.invariant.same w.in_default.ensures (λ b. b)).0 in
          record {
            same = subst (λ (fs : List CanonicalPart). SaysSame (map in_full fs) (map said (take (c.loop-i.i + 1) c.args.records.now))) e same;
            unbroken = λ rule clear t. subst (λ (fs : List CanonicalPart). Breach rule (map in_full fs) → ⊥) e (c.loop-i.invariant.unbroken rule clear t);
            before = λ rule clear t. (unbroken_past (Breach rule) t.same c.loop-i.parts.list.items c.args.records.now c.loop-i.i _
                (c.loop-i.invariant.before rule clear t) c.loop-i-test.true c.index-records-i.is c.loop-i.invariant.same w.in_default.ensures (c.loop-i.invariant.unbroken rule clear t)).1;
          }
    ]
