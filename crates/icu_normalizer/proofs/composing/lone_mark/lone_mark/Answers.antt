use Rattle.std.proofs.Common.{arith}
use Rattle.icu_normalizer.proofs.composing.lone_mark.lone_mark.Goals as goal

pub returns-in-Some-composed_lone : goal.returns-in-Some-composed_lone
returns-in-Some-composed_lone g c =
    record {
      letter = c.in-Some.letter.0;
      mark = c.in-Some-undamaged_char.mark.0;
      behind = g.T.Text.spelled c.in-Some.letter.1;
      first = c.in-Some.ensures.begins;
      second = c.in-Some-undamaged_char.ensures.begins;
      some = let fewer = c.in-Some.ensures.fewer in omega arith;
      apart = c.in_default-next_of_cluster.ensures.none;
      composes = c.in-Some-composed_lone.ensures.form;
      made = c.in-Some-composed_lone.ensures.made;
    }
