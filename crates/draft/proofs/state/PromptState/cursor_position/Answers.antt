use Rattle.std.proofs.Common.{◌^◌, ◌≤◌, length, arith}
use Rattle.font.proofs.Texts.{text_columns_bound}
use Rattle.draft.proofs.state.PromptState.cursor_position.Goals as goal

pub returns-clause-bound : goal.returns-clause-bound
returns-clause-bound g c =
    let part = c.before_cursor.result.now in
    let short : length part ≤ 2 ^ 60 = omega (arith, c.before_cursor.ensures.bound) in
    omega (arith, c.measured.ensures.exact short, text_columns_bound g.F.Font.columns part, c.before_cursor.ensures.bound)
