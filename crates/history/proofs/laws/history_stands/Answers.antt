use Rattle.history.proofs.GivenBack.{gives_back, spelling_clean, spelling_readable, saved_alike}
use Rattle.history.proofs.ReadAgain.{is_one_line, never_longer, remembered_last, not_twice, read_again}
use Rattle.history.proofs.laws.history_stands.Goals as goal

pub returns : goal.returns
returns c =
    record {
      saving = record {
        gives_back = gives_back;
        is_clean = spelling_clean;
        is_readable = spelling_readable;
        is_one_line = is_one_line;
        saved_alike = saved_alike;
      };
      writing = record { never_longer = never_longer; remembered_last = remembered_last; not_twice = not_twice; read_again = read_again };
    }
