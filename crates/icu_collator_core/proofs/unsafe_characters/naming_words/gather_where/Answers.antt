use Rattle.std.proofs.Common.{sym, ◌∙◌, IsTrue}
use Rattle.icu_collator_types.specs.ElementWords.{has_tag}
use Rattle.icu_collator_core.specs.TableMeaning.{pools_of}
use Rattle.icu_collator_core.specs.UnsafeWords.{ContextMakesUnsafe}
use Rattle.icu_collator_core.proofs.apart.GrowthLemmas.{grown_where}
use Rattle.icu_collator_core.proofs.unsafe_characters.naming_words.gather_where.Goals as goal

pub returns : goal.returns
returns c =
    grown_where (IsTrue (has_tag c.args.tag c.args.word)) (ContextMakesUnsafe (pools_of c.args.source.now) c.args.side c.args.word)
    c.args.characters.now.items c.gather_context.new.characters.items (sym c.has_tag.ensures ∙ c.if-not-has_tag.false) c.in_ok-gather_context.ensures
