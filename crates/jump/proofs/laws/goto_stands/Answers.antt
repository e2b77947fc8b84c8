use Rattle.jump.proofs.Stands.{reads_just_numerals, stays_in_the_listing, ten_lines}
use Rattle.jump.proofs.laws.goto_stands.Goals as goal

pub returns : goal.returns
returns c =
    record {
      reads_just_numerals = reads_just_numerals;
      stays_in_the_listing = stays_in_the_listing;
      ten_lines = ten_lines;
    }
