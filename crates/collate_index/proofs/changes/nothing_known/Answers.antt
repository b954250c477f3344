use Rattle.std.proofs.Common.{◌≡◌, Bool, Option, None, [], ◌∷◌, ◌++◌, ap, arith, length, refl}
use Rattle.std.proofs.lemmas.List.{length_push}
use Rattle.std.proofs.lemmas.List.Elements.{All-nil, All-push, All-same}
use Rattle.collate_index.proofs.changes.nothing_known.Goals as goal

IsNone : Option Bool → Type 0
IsNone is = is ≡ None

pub characters-init : goal.characters-init
unfolding IsNone
characters-init c = record {
  nothing = All-same IsNone c.in_ok-known.known.items [] c.in_ok-known.ensures.items (All-nil IsNone);
  room = ap length c.in_ok-known.ensures.items;
  upto = omega arith;
}

pub characters-preserved : goal.characters-preserved
unfolding IsNone
characters-preserved c = record {
  nothing =
      All-same IsNone c.push.new.self.items (c.characters.known.items ++ None ∷ []) c.in_ok-push.ensures.items
      (All-push IsNone c.characters.known.items None c.characters.invariant.nothing refl);
  room = omega (arith, ap length c.in_ok-push.ensures.items, length_push c.characters.known.items None, c.characters.invariant.room);
  upto = omega (arith, c.characters-test.true);
}

pub returns-clause-nothing : goal.returns-clause-nothing
returns-clause-nothing c = c.characters.invariant.nothing

pub returns-clause-room : goal.returns-clause-room
returns-clause-room c = omega (arith, c.characters.invariant.room, c.characters.invariant.upto, c.characters-test.false)
