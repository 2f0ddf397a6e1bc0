use Rattle.catalogue.proofs.decision.decide_by_rules.Goals as goal

pub returns-in-AddPartitionsReq : goal.returns-in-AddPartitionsReq
returns-in-AddPartitionsReq c = rw c.in-AddPartitionsReq.is c.add_requested.ensures

pub returns-in-GetPartition : goal.returns-in-GetPartition
returns-in-GetPartition c = rw c.in-GetPartition.is c.get_partition.ensures

pub returns-in-GetPartitionByName : goal.returns-in-GetPartitionByName
returns-in-GetPartitionByName c = rw c.in-GetPartitionByName.is c.get_partition-in-GetPartitionByName.ensures

pub returns-in-AlterPartition : goal.returns-in-AlterPartition
returns-in-AlterPartition c = rw c.in-AlterPartition.is c.alter_partition.ensures

pub returns-in-RenamePartition : goal.returns-in-RenamePartition
returns-in-RenamePartition c = rw c.in-RenamePartition.is c.rename_partition.ensures
