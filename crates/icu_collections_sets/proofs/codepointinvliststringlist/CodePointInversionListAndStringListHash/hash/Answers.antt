use Rattle.std.proofs.Common.{map, string_bytes}
use Rattle.std.specs.Hash as fed
use Rattle.icu_collections_sets.proofs.texts.TextLemmas.{fed_texts}
use Rattle.icu_collections_sets.proofs.codepointinvliststringlist.CodePointInversionListAndStringListHash.hash.Goals as goal

pub returns : goal.returns
returns g c =
    rw (← c.self.view_is)
    (fed.fed_then g.H.Hasher.write c.args.state.now c.hash.new.state c.hash-2.new.state (fed.slice fed.u32 c.self.inside.code_points)
    (fed.slice fed.str (map string_bytes c.self.inside.strings.items)) c.hash.ensures
    (fed.fed_along g.H.Hasher.write c.hash.new.state c.hash-2.new.state (fed_texts c.self.inside.strings.items) c.hash-2.ensures))
