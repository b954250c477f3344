use Rattle.std.proofs.Common.{length, map, take, ◌∙◌}
use Rattle.std.specs.List.{slice_index_or}
use Rattle.collate_words.specs.declared.contexts.ContextKey.{ContextKey}
use Rattle.collate_words.specs.Entries.{said_beside}
use Rattle.collate_words.specs.Sayings.{element_sum}
use Rattle.collate_words.proofs.growth.FrontLemmas.{Grows-trans}
use Rattle.collate_words.proofs.written.WritingLemmas.{beside_at, elements_more, elements_within, grown_within, grows_for_along, key_fits, no_beside, pushed_count, pushed_fit, pushed_keys, room_beside}
use Rattle.collate_words.proofs.pools.Pools.write_keys.Goals as goal

pub write_own-requires-clause-room : goal.write_own-requires-clause-room
write_own-requires-clause-room c =
    let besides = c.args.besides.now in
    let index = c.loop-beside.beside-index in
    room_beside (element_sum (map said_beside besides)) (length besides) (element_sum (map said_beside (take index besides)))
    _ c.args.self.now c.loop-beside.self
    c.requires.room c.loop-beside.invariant.size
    (elements_within besides index no_beside c.loop-beside-test.true)

pub write_own-requires-clause-fit : goal.write_own-requires-clause-fit
write_own-requires-clause-fit c =
    (beside_at 7 c.args.besides.now c.loop-beside.beside-index no_beside c.loop-beside-test.true
    c.requires.beside).elements

pub returns-in_err-units-clause-grows : goal.returns-in_err-units-clause-grows
returns-in_err-units-clause-grows c =
    Grows-trans c.args.self.now c.loop-beside.self c.write_own.new.self c.loop-beside.invariant.grows
    c.write_own.ensures.grows

pub returns-in_err-push-clause-grows : goal.returns-in_err-push-clause-grows
returns-in_err-push-clause-grows c =
    Grows-trans c.args.self.now c.loop-beside.self c.write_own.new.self c.loop-beside.invariant.grows
    c.write_own.ensures.grows

pub returns-in_err-word-clause-size : goal.returns-in_err-word-clause-size
returns-in_err-word-clause-size c =
    grown_within c.args.besides.now c.loop-beside.beside-index no_beside c.loop-beside-test.true c.args.self.now
    c.loop-beside.self c.write_own.new.self c.loop-beside.invariant.size c.write_own.ensures.size

pub returns-in_err-units-clause-size : goal.returns-in_err-units-clause-size
returns-in_err-units-clause-size c =
    grown_within c.args.besides.now c.loop-beside.beside-index no_beside c.loop-beside-test.true c.args.self.now
    c.loop-beside.self c.write_own.new.self c.loop-beside.invariant.size c.write_own.ensures.size

pub returns-in_err-push-clause-size : goal.returns-in_err-push-clause-size
returns-in_err-push-clause-size c =
    grown_within c.args.besides.now c.loop-beside.beside-index no_beside c.loop-beside-test.true c.args.self.now
    c.loop-beside.self c.write_own.new.self c.loop-beside.invariant.size c.write_own.ensures.size

pub loop-beside-preserved : goal.loop-beside-preserved
loop-beside-preserved c =
    let index = c.loop-beside.beside-index in
    let inside = c.loop-beside-test.true in
    let beside = slice_index_or c.args.besides.now index no_beside in
    let key : ContextKey = record { units = c.in_ok-units.units; word = c.in_ok-word.word } in
    let before = c.loop-beside.keys.items in
    let after = c.push.new.self.items in
    let grown = c.write_own.ensures.grows in
    record {
      grows = Grows-trans c.args.self.now c.loop-beside.self c.write_own.new.self c.loop-beside.invariant.grows grown;
      contexts = c.write_own.ensures.contexts ∙ c.loop-beside.invariant.contexts;
      size = grows_for_along _ _ _ c.args.self.now c.loop-beside.self c.write_own.new.self
          c.loop-beside.invariant.size c.write_own.ensures.size (elements_more c.args.besides.now index no_beside inside);
      count = pushed_count before after key index c.in_ok-push.ensures.items c.loop-beside.invariant.count;
      fit = pushed_fit before after key c.in_ok-push.ensures.items c.loop-beside.invariant.fit
          (key_fits c.args.backward (said_beside beside) key
          (beside_at 7 c.args.besides.now index no_beside inside c.requires.beside)
          c.in_ok-units.ensures c.in_ok-word.ensures.says.fits);
      says = pushed_keys c.loop-beside.self c.write_own.new.self c.args.backward grown c.args.besides.now index
          no_beside inside before after key
          c.in_ok-push.ensures.items c.loop-beside.invariant.says
          (record { units = c.in_ok-units.ensures; word = c.in_ok-word.ensures.says });
    }
