use Rattle.std.proofs.Common.{◌+◌, ◌∷◌, [], map, refl, sym, ap, ◌∙◌, subst, arith}
use Rattle.std.proofs.lemmas.List.{length-map}
use Rattle.std.proofs.lemmas.Slice.{pushed}
use Rattle.serde_json.specs.Data.{Data}
use Rattle.serde_json.specs.View.{view}
use Rattle.icu_collections_sets.specs.Json.{SpellSet, IsItem}
use Rattle.icu_collections_sets.proofs.texts.JsonLemmas.{SpellSet-none, SpellSet-more, IsOrderFault-early, least_behind, least_behind-none, least_behind-append, item_at-map}
use Rattle.icu_collections_sets.proofs.json.code_point_list.read_edges.Goals as goal

pub loop-index-init : goal.loop-index-init
loop-index-init c = record {
  spells = subst (SpellSet []) (sym c.new-edges.ensures.items) SpellSet-none;
  least = sym least_behind-none ∙ ap (least_behind 0) (sym c.new-edges.ensures.items);
}

pub returns-in_default : goal.returns-in_default
returns-in_default c =
    let at = item_at-map c.args.items.now c.loop-index.index c.index-items-index.result c.loop-index-test.true c.index-items-index.is in
    record {
      within = omega (arith, c.loop-index-test.true, length-map c.args.items.now view);
      set = c.loop-index.edges.items;
      before = c.loop-index.invariant.spells;
      no_range = λ range h. c.in_default.ensures range (subst (λ (d : Data). IsItem d range) at h);
    }

pub returns-then-first-least : goal.returns-then-first-least
returns-then-first-least c =
    let at = item_at-map c.args.items.now c.loop-index.index c.index-items-index.result c.loop-index-test.true c.index-items-index.is in
    IsOrderFault-early (map view c.args.items.now) c.loop-index.index c.loop-index.edges.items (c.in-Some.first, c.in-Some.last)
    (omega (arith, c.loop-index-test.true, length-map c.args.items.now view)) c.loop-index.invariant.spells
    (subst (λ (d : Data). IsItem d (c.in-Some.first, c.in-Some.last)) (sym at) c.in-Some.ensures)
    (omega (arith, c.if-first-least.true, c.loop-index.invariant.least))

pub loop-index-preserved : goal.loop-index-preserved
loop-index-preserved c =
    let at = item_at-map c.args.items.now c.loop-index.index c.index-items-index.result c.loop-index-test.true c.index-items-index.is in
    let set = c.loop-index.edges.items in
    let first = c.in-Some.first in
    let last = c.in-Some.last in
    let more = pushed (first ∷ (last + 1) ∷ []) refl c.in_ok-extend_from_slice.was c.extend_from_slice.ensures.items in
    let spells = SpellSet-more (map view c.args.items.now) c.loop-index.index set (first, last)
    (omega (arith, c.loop-index-test.true, length-map c.args.items.now view)) c.loop-index.invariant.spells
    (subst (λ (d : Data). IsItem d (first, last)) (sym at) c.in-Some.ensures)
    (omega (arith, c.if-first-least.false, c.loop-index.invariant.least)) in
    record {
      spells = rw more spells;
      least = rw more (omega (arith, least_behind-append 0 set first (last + 1)));
    }
