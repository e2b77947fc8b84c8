use Rattle.std.proofs.Common.{◌≡◌, take, replicate, ap, ◌∙◌, rules}
use Rattle.std.proofs.lemmas.List.{take-replicate}
use Rattle.glass.specs.Row.{widest}
use Rattle.cells.specs.Slots.{blank_slot}
use Rattle.cells.proofs.cell_row.calls.blank_slots.Goals as goal

pub returns : goal.returns
returns c =
    let all : c.from-slots.result.items ≡ replicate widest blank_slot = search rules in
    record { value = c.truncate.ensures.items ∙ ap (take c.args.width) all ∙ take-replicate c.args.width widest blank_slot c.requires }
