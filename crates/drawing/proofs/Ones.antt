-- Printable characters take one column each, in every font.
use Rattle.std.proofs.Common.{◌≡◌, ℕ, ◌≤◌, List, [], ◌∷◌}
use Rattle.std.specs.List.{AllByRecursion}
use Rattle.font.specs.declared.Columns.{Columns}
use Rattle.font.specs.declared.Columns.TheVariants.{One}
use Rattle.font.specs.Labels.{label, Printable}
use Rattle.font.proofs.Labels.{label_printable}
use Rattle.glass.proofs.Text.{AllOne}

module _ (columns : ℕ → Columns) (ascii : (c : ℕ) → 0x20 ≤ c → c ≤ 0x7E → columns c ≡ One) where
  pub printable_one : (cs : List ℕ) → AllByRecursion Printable cs → AllOne columns cs
  printable_one [] a = tt
  printable_one (c ∷ cs) a = (ascii c a.0.0 a.0.1, printable_one cs a.1)

  pub label_one : (c : ℕ) → AllOne columns (label c)
  label_one c = printable_one (label c) (label_printable c)
