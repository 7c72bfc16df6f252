-- The numbers and the names of refusals.
use Rattle.std.specs.Prelude.{ℕ, List, codes}
use Rattle.sq_base.specs.declared.refusal.Refusal.{Refusal}
use Rattle.sq_base.specs.declared.refusal.Refusal.TheVariants.{NoMemory, ClockRange, Worn, InvalidRequest, InvalidAttributeName, InvalidAttributeValue, InvalidParameterValue, InvalidAddress, QueueDoesNotExist, QueueNameExists, QueueDeletedRecently, PurgeQueueInProgress, InvalidMessageContents, OverLimit, ReceiptHandleIsInvalid, MessageNotInflight, EmptyBatchRequest, TooManyEntriesInBatchRequest, InvalidBatchEntryId, BatchEntryIdsNotDistinct, BatchRequestTooLong, ResourceNotFoundException, UnsupportedOperation, TableFull, HomeDraining}

-- the numbers are own
abbrev pub number_of : Refusal → ℕ
number_of NoMemory = 1
number_of ClockRange = 2
number_of Worn = 3
number_of InvalidRequest = 4
number_of InvalidAttributeName = 5
number_of InvalidAttributeValue = 6
number_of InvalidParameterValue = 7
number_of InvalidAddress = 8
number_of QueueDoesNotExist = 9
number_of QueueNameExists = 10
number_of QueueDeletedRecently = 11
number_of PurgeQueueInProgress = 12
number_of InvalidMessageContents = 13
number_of OverLimit = 14
number_of ReceiptHandleIsInvalid = 15
number_of MessageNotInflight = 16
number_of EmptyBatchRequest = 17
number_of TooManyEntriesInBatchRequest = 18
number_of InvalidBatchEntryId = 19
number_of BatchEntryIdsNotDistinct = 20
number_of BatchRequestTooLong = 21
number_of ResourceNotFoundException = 22
number_of UnsupportedOperation = 23
number_of TableFull = 24
number_of HomeDraining = 25

-- as in the SQS API Reference, but for NoMemory, ClockRange, Worn, TableFull and HomeDraining, which are own
abbrev pub name_of : Refusal → List ℕ
name_of NoMemory = codes "NoMemory"
name_of ClockRange = codes "ClockRange"
name_of Worn = codes "Worn"
name_of InvalidRequest = codes "InvalidRequest"
name_of InvalidAttributeName = codes "InvalidAttributeName"
name_of InvalidAttributeValue = codes "InvalidAttributeValue"
name_of InvalidParameterValue = codes "InvalidParameterValue"
name_of InvalidAddress = codes "InvalidAddress"
name_of QueueDoesNotExist = codes "QueueDoesNotExist"
name_of QueueNameExists = codes "QueueNameExists"
name_of QueueDeletedRecently = codes "QueueDeletedRecently"
name_of PurgeQueueInProgress = codes "PurgeQueueInProgress"
name_of InvalidMessageContents = codes "InvalidMessageContents"
name_of OverLimit = codes "OverLimit"
name_of ReceiptHandleIsInvalid = codes "ReceiptHandleIsInvalid"
name_of MessageNotInflight = codes "MessageNotInflight"
name_of EmptyBatchRequest = codes "EmptyBatchRequest"
name_of TooManyEntriesInBatchRequest = codes "TooManyEntriesInBatchRequest"
name_of InvalidBatchEntryId = codes "InvalidBatchEntryId"
name_of BatchEntryIdsNotDistinct = codes "BatchEntryIdsNotDistinct"
name_of BatchRequestTooLong = codes "BatchRequestTooLong"
name_of ResourceNotFoundException = codes "ResourceNotFoundException"
name_of UnsupportedOperation = codes "UnsupportedOperation"
name_of TableFull = codes "TableFull"
name_of HomeDraining = codes "HomeDraining"
