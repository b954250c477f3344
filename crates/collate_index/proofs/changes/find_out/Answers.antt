use Rattle.std.proofs.Common.{◌≡◌, ◌<◌, ◌≤◌, ◌+◌, ◌++◌, ◌∷◌, [], ℕ, Bool, List, Option, Some, set, length, sym, ap, subst, arith, rules}
use Rattle.std.specs.Char.{IsScalar}
use Rattle.std.proofs.lemmas.List.{nil_from_length}
use Rattle.icu_normalizer_core.specs.Canonical.{IsDecomposing}
use Rattle.icu_normalizer_core.proofs.decoded.ScalarLemmas.{scalar_below}
use Rattle.collate_lines.specs.Record.{Record}
use Rattle.collate_rules.specs.Meaning.{canonical_of}
use Rattle.collate_index.proofs.reloading.DepthLemmas.{depth_of, depth_within_le, step_less_deep}
use Rattle.collate_rules.specs.Meaning.{step_of}
use Rattle.collate_index.specs.Changes.{IsUnknown, Tells}
use Rattle.collate_index.proofs.reloading.WalkLemmas.{IsWalk, last_first, last_unknown, one_less_unknown, unknown_count, walk_back, walk_begun, walk_further}
use Rattle.collate_index.proofs.changes.find_out.Goals as goal

pub looks-init : goal.looks-init
looks-init c = record {
  known = c.requires.known;
  room = c.requires.room;
  walk = walk_begun (depth_of c.args.differences.now.before) c.args.known.now.items c.args.c c.new-waiting.result.items c.new-waiting.ensures.items c.requires.unknown;
}

pub looks-preserved-in-Before : goal.looks-preserved-in-Before
looks-preserved-in-Before c =
    let lines = c.args.differences.now.before in
    let decomposing : IsDecomposing (canonical_of lines) = subst (λ (ls : List Record). IsDecomposing (canonical_of ls)) c.before-2.ensures c.keep_rules.ensures.canonical in
    let scalar : IsScalar c.looks.here = c.promise_scalar.ensures in
    let less : depth_of lines c.in-Before.other < depth_of lines c.looks.here = step_less_deep lines c.looks.here c.in-Before.other decomposing scalar c.in-Before.ensures.0 in
    record {
      known = c.looks.invariant.known;
      room = c.looks.invariant.room;
      walk =
          walk_further (depth_of lines) c.looks.known.items c.args.c c.looks.waiting.items c.looks.here c.in-Before.other c.push.new.self.items
          c.in_ok-push-in-Before.ensures.items (subst (λ (known : List (Option Bool)). IsUnknown known c.in-Before.other) c.deref.ensures.value c.in-Before.ensures.1) less
          c.looks.invariant.walk;
    }

pub looks-smaller-in-Before : goal.looks-smaller-in-Before
looks-smaller-in-Before c =
    let lines = c.args.differences.now.before in
    let decomposing : IsDecomposing (canonical_of lines) = subst (λ (ls : List Record). IsDecomposing (canonical_of ls)) c.before-2.ensures c.keep_rules.ensures.canonical in
    let scalar : IsScalar c.looks.here = c.promise_scalar.ensures in
    let less : depth_of lines c.in-Before.other < depth_of lines c.looks.here = step_less_deep lines c.looks.here c.in-Before.other decomposing scalar c.in-Before.ensures.0 in
    omega arith

pub looks-preserved : goal.looks-preserved
looks-preserved c =
    let depth = depth_of c.args.differences.now.before in
    record {
      known = c.keep.ensures.known;
      room = search rules;
      walk =
          subst (λ (known : List (Option Bool)). IsWalk depth known c.args.c (c.pop.new.self.items ++ c.in-Some.earlier ∷ [])) (sym c.keep.ensures.put)
          (walk_back depth c.looks.known.items c.args.c c.looks.waiting.items c.pop.new.self.items c.looks.here c.in-Some.earlier c.in-Found.is'
          c.in-Some.ensures.items c.looks.invariant.walk);
    }

pub looks-smaller : goal.looks-smaller
looks-smaller c =
    let lines = c.args.differences.now.before in
    let here : ℕ = c.looks.here in
    let within : here < length c.looks.known.items = omega (arith, scalar_below here c.promise_scalar.ensures, c.looks.invariant.room) in
    let one : unknown_count (set c.looks.known.items here (Some c.in-Found.is')) + 1 ≡ unknown_count c.looks.known.items =
    one_less_unknown c.looks.known.items here c.in-Found.is' within
    (last_unknown (depth_of lines) c.looks.known.items c.args.c c.looks.waiting.items here c.looks.invariant.walk) in
    let put : unknown_count c.keep.new.known.items ≡ unknown_count (set c.looks.known.items here (Some c.in-Found.is')) = ap unknown_count c.keep.ensures.put in
    let upto : depth_of lines c.in-Some.earlier ≤ 0x110000 = depth_within_le (step_of lines) 0x110000 c.in-Some.earlier in
    omega arith

pub returns-in-None-clause-tells : goal.returns-in-None-clause-tells
returns-in-None-clause-tells c =
    let none : c.looks.waiting.items ≡ [] = nil_from_length c.looks.waiting.items (omega (arith, c.in-None.ensures.cases.0, c.looks.waiting.ok.0)) in
    subst (λ (x : ℕ). Tells c.args.differences.now x c.in-Found.is')
    (last_first (depth_of c.args.differences.now.before) c.looks.known.items c.args.c c.looks.waiting.items c.looks.here none c.looks.invariant.walk) c.in-Found.ensures
