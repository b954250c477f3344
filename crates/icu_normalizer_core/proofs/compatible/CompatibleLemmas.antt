-- What compatibility data keep of what making a normal form rests on.
use Rattle.std.proofs.Common.{◌≡◌, ℕ, ◌<◌, List, ◌∷◌, None, ⊎_elim, sym, ap, ◌∙◌, arith}
use Rattle.std.proofs.lemmas.Bool.{cases_eq}
use Rattle.std.proofs.lemmas.Bool.Decides.{nat_tests}
use lib.Utf8.{low_scalar}
use Rattle.icu_normalizer_core.specs.BuiltIn.{built_in_compatibility_step}
use Rattle.icu_normalizer_core.specs.Canonical.{Canonical, IsCanonical}
use Rattle.icu_normalizer_core.specs.Compatibility.{IsCompatibility}
use Rattle.icu_normalizer_core.specs.Forming.{IsForming, AreLowBelow}
use Rattle.icu_normalizer_core.proofs.built.BuiltInFacts.{low_free}
use Rattle.icu_normalizer_core.proofs.decomposed_lists.FormingLemmas.{forming_canonical}

-- no compatibility mapping is built in of a character below U+0300
low_unbound : (c : ℕ) → c < 0x300 → built_in_compatibility_step c ≡ None
unfolding built_in_compatibility_step
low_unbound c h = grind (arith, nat_tests)

module _ (canonical compatibility : Canonical) (ok : IsCanonical canonical) (is : IsCompatibility canonical compatibility) where
  beneath : IsForming canonical
  beneath = forming_canonical canonical ok

  starters : (c : ℕ) → c < 0x300 → compatibility.class c ≡ 0
  starters c low = is.class c ∙ beneath.starters c low

  begins : (c d : ℕ) (ds : List ℕ) → c < 0x300 → compatibility.full c ≡ d ∷ ds → compatibility.class d ≡ 0
  begins c d ds low e =
      ⊎_elim
      (λ same. ap compatibility.class same ∙ starters c low)
      (λ other. is.class d ∙ is.begins c d ds (low_scalar c (omega arith)) (low_free c low, low_unbound c low) (λ itself. other (let same : d ≡ c = cc in same)) e)
      (cases_eq d c)

  pub forming_compatibility : IsForming compatibility
  forming_compatibility = record {
    starters = starters;
    begins = begins;
    low = is.low;
    bounded = is.bounded;
    nonempty = is.nonempty;
    scalars = is.scalars;
    own = is.own;
    pairs = is.pairs;
    parts = λ a b z p. beneath.parts a b z (sym (is.pair a b) ∙ p);
    seconds = λ a b z p. beneath.seconds a b z (sym (is.pair a b) ∙ p);
  }

  pub low_compatibility : AreLowBelow 0xa0 compatibility
  low_compatibility = record { within = omega arith; itself = is.low }
