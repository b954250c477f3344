use Rattle.std.proofs.Common.{◌≡◌, ℕ, ◌*◌, ◌/◌, ◌≤◌, nat_lt, length, if◌then◌else◌}
use Rattle.icu_codepointtrie.specs.CodePointMaps.{mapped}
use Rattle.icu_codepointtrie.proofs.planes.plane_map.Given as goal

abbrev pub invariant-loop-plane : goal.invariant-loop-plane
invariant-loop-plane l = record {
  all : length l.map.values ≡ 0x11_0000;
  planes : (c : ℕ) → c ≤ 0x10_FFFF → mapped l.map c ≡ (if nat_lt c (l.plane * 0x1_0000) then c / 0x1_0000 else 0);
  default : l.map.default ≡ 0;
  error : l.map.error ≡ 0;
}
