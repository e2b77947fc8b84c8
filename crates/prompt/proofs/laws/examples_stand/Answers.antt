use Rattle.std.proofs.Common.{refl}
use Rattle.prompt.proofs.laws.examples_stand.Goals as goal

pub returns : goal.returns
returns c =
    record {
      letters_typed = record {
        nineteen_go_out_alone = refl;
        cursor_after_nineteen = (refl, refl);
        the_twentieth_is_drawn = refl;
        cursor_after_twenty = (refl, refl);
        the_next_scrolls = (refl, refl);
        all_removed = (refl, refl);
      };
      narrow_row = record { one_letter_is_drawn = refl; one_letter_scrolls = (refl, refl) };
      bell_typed = record { label_shown = refl; cursor_after_it = (refl, refl) };
    }
