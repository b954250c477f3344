use Rattle.std.proofs.Common.{[], ◌∷◌, ◌++◌, length, length-append, refl, sym, ap, ◌∙◌, arith, append_assoc, append-nil}
use Rattle.icu_normalizer_core.specs.Canonical.{Canonical, composed, decomposed}
use Rattle.icu_normalizer.specs.ClusterForm.{form_data}
use Rattle.icu_normalizer.proofs.composed.ClusterFormLemmas.{read_none, read_more, read_all}
use Rattle.icu_normalizer.proofs.cuts.TextCutLemmas.{first_read}
use Rattle.icu_normalizer.proofs.composing.cluster_form.ClusterForm.begin.Goals as goal

pub returns-in_default-clause-cluster : goal.returns-in_default-clause-cluster
returns-in_default-clause-cluster g c = absurd (c.requires.some c.in_default.ensures.none)

pub returns-in_default-clause-begun : goal.returns-in_default-clause-begun
returns-in_default-clause-begun g c = absurd (c.requires.some c.in_default.ensures.none)

pub returns-in_default-clause-same : goal.returns-in_default-clause-same
returns-in_default-clause-same g c = absurd (c.requires.some c.in_default.ensures.none)

pub chars-init : goal.chars-init
chars-init g c =
    let k = form_data c.args.self.now in
    let d = c.unwrap_or-c.result in
    let same = c.args.self.now.same in (
      d ∷ [],
      omega arith,
      first_read g.T.Text.encode (g.T.Text.spelled c.args.text) (g.T.Text.spelled c.in-Some.first.1) c.in-Some.first.0 d c.in-Some.ensures.some c.unwrap_or-c.ensures,
      λ xs. read_more _ _ k (d ∷ xs) _ d xs same c.in_ok-push_decomposed.ensures.ok refl (read_none c.args.self.now.run k (d ∷ xs) c.requires.fresh.0 same),
      refl,
      c.requires.fresh.1,
    )

pub returns-in_err-push_decomposed-2-clause-same : goal.returns-in_err-push_decomposed-2-clause-same
returns-in_err-push_decomposed-2-clause-same g c = c.chars.invariant.4

pub chars-smaller : goal.chars-smaller
chars-smaller g c = omega (arith, ap length c.in-Some-next_of_cluster.ensures.some)

pub chars-preserved : goal.chars-preserved
chars-preserved g c =
    let now = c.chars.invariant in
    let d = c.in-Some-next_of_cluster.read.0 in
    let k = form_data c.args.self.now in (
      now.0 ++ d ∷ [],
      omega (arith, length-append now.0 (d ∷ [])),
      now.2 ∙ ap (λ l. now.0 ++ l) c.in-Some-next_of_cluster.ensures.some ∙ sym (append_assoc now.0 (d ∷ []) (g.T.Text.spelled c.in-Some-next_of_cluster.read.1).characters),
      λ xs. read_more _ _ k (d ∷ xs) _ d xs (c.chars.self.same ∙ now.4) c.in_ok-push_decomposed-2.ensures.ok refl (now.3 (d ∷ xs))
          ∙ ap (decomposed k) (sym (append_assoc now.0 (d ∷ []) xs)),
      now.4,
      now.5,
    )

pub returns-in_err-finish-clause-same : goal.returns-in_err-finish-clause-same
returns-in_err-finish-clause-same g c = c.chars.invariant.4

pub returns-clause-cluster : goal.returns-clause-cluster
returns-clause-cluster g c =
    let now = c.chars.invariant in
    let k = form_data c.args.self.now in
    record {
      cluster = now.0;
      some = now.1;
      whole = now.2;
      composes =
          read_all _ _ _ k [] now.0 now.5 now.4 refl (now.3 [] ∙ ap (decomposed k) (append-nil now.0)) c.in_ok-finish.ensures.output
          ∙ ap (λ (d : Canonical). composed d now.0) c.requires.data;
      apart = c.in_default-next_of_cluster.ensures.none;
    }

pub returns-clause-same : goal.returns-clause-same
returns-clause-same g c = c.chars.invariant.4
