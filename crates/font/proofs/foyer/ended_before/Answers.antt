use Rattle.std.proofs.Common.{ltb, ltb-true, ltb-false, rules}
use Rattle.std.proofs.lemmas.List.Sorted.{IsPartitionPoint-from_clause}
use Rattle.font.proofs.Tables.{rising, ended_first}
use Rattle.font.proofs.foyer.ended_before.Goals as goal

pub returns : goal.returns
returns c =
    let point = IsPartitionPoint-from_clause (λ r. ltb r.1 c.args.code) _ _ c.partition_point.ensures.partitioned (ended_first c.args.table.now c.args.code (rising _ c.requires.rises)) (λ a r q k. search rules) in
    record { ended = ((λ k d l h. ltb-true _ _ (point.0 k d l h)), (λ k d l h. ltb-false _ _ (point.1 k d l h))) }
