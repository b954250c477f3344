use Rattle.std.proofs.Common.{rules}
use Rattle.icu_collections_sets.proofs.texts.StringListLemmas.{not_unique}
use Rattle.icu_collections_sets.proofs.codepointinvliststringlist.CodePointInversionListAndStringList.try_from.Goals as goal

pub returns-in-NotUnique : goal.returns-in-NotUnique
returns-in-NotUnique c =
    not_unique c.args.strings.items c.in-Some.index c.remove-text.result (search rules) (search rules) (search rules) (search rules)
