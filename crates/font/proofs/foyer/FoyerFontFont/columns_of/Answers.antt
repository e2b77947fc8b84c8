use Rattle.std.proofs.Common.{◌∙◌}
use Rattle.font.proofs.Tables.{listed_foyer}
use Rattle.font.proofs.foyer.FoyerFontFont.columns_of.Goals as goal

pub returns-in_default : goal.returns-in_default
returns-in_default c =
    let table = c.foyer_table.ensures in
    record { value = c.look_up.ensures.value ∙ listed_foyer c.foyer_table.result.now table.rises table.no_width table.zero_columns table.two_columns c.args.code }
