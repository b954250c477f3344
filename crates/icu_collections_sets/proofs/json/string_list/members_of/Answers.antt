use Rattle.std.proofs.Common.{sym, ◌∙◌}
use Rattle.serde_json.proofs.Views.{members_len-members_view}
use Rattle.serde_json.specs.View.{view, members_view}
use Rattle.icu_collections_sets.proofs.texts.JsonStringListLemmas.{counted}
use Rattle.icu_collections_sets.proofs.json.string_list.members_of.Goals as goal

pub returns-then-len-ne2 : goal.returns-then-len-ne2
returns-then-len-ne2 c = λ list texts h.
    c.if-len-ne2.true (c.len.ensures.len ∙ counted (view c.args.value.now) c.in_ok-members.members.now.entries list texts c.in_ok-members.ensures h)

pub returns : goal.returns
returns c =
    let entries = c.in_ok-members.members.now.entries in
    record {
      members = members_view entries;
      is_object = sym c.in_ok-members.ensures;
      two = members_len-members_view entries ∙ sym c.len.ensures.len ∙ c.if-len-ne2.false;
      has_list = sym c.in_ok-code_points.ensures;
      has_texts = sym c.in_ok-strings.ensures;
    }
