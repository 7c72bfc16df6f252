use Rattle.std.proofs.Common.{refl}
use Rattle.std.specs.Fmt.{digits}
use Rattle.sq_replies.specs.Replies.{error_text}
use Rattle.sq_replies.proofs.reply.error_text.Goals as goal

pub returns-in-NoMemory : goal.returns-in-NoMemory
unfolding error_text digits
returns-in-NoMemory c = rw c.in-NoMemory.is refl

pub returns-in-ClockRange : goal.returns-in-ClockRange
unfolding error_text digits
returns-in-ClockRange c = rw c.in-ClockRange.is refl

pub returns-in-Worn : goal.returns-in-Worn
unfolding error_text digits
returns-in-Worn c = rw c.in-Worn.is refl

pub returns-in-InvalidRequest : goal.returns-in-InvalidRequest
unfolding error_text digits
returns-in-InvalidRequest c = rw c.in-InvalidRequest.is refl

pub returns-in-InvalidAttributeName : goal.returns-in-InvalidAttributeName
unfolding error_text digits
returns-in-InvalidAttributeName c = rw c.in-InvalidAttributeName.is refl

pub returns-in-InvalidAttributeValue : goal.returns-in-InvalidAttributeValue
unfolding error_text digits
returns-in-InvalidAttributeValue c = rw c.in-InvalidAttributeValue.is refl

pub returns-in-InvalidParameterValue : goal.returns-in-InvalidParameterValue
unfolding error_text digits
returns-in-InvalidParameterValue c = rw c.in-InvalidParameterValue.is refl

pub returns-in-InvalidAddress : goal.returns-in-InvalidAddress
unfolding error_text digits
returns-in-InvalidAddress c = rw c.in-InvalidAddress.is refl

pub returns-in-QueueDoesNotExist : goal.returns-in-QueueDoesNotExist
unfolding error_text digits
returns-in-QueueDoesNotExist c = rw c.in-QueueDoesNotExist.is refl

pub returns-in-QueueNameExists : goal.returns-in-QueueNameExists
unfolding error_text digits
returns-in-QueueNameExists c = rw c.in-QueueNameExists.is refl

pub returns-in-QueueDeletedRecently : goal.returns-in-QueueDeletedRecently
unfolding error_text digits
returns-in-QueueDeletedRecently c = rw c.in-QueueDeletedRecently.is refl

pub returns-in-PurgeQueueInProgress : goal.returns-in-PurgeQueueInProgress
unfolding error_text digits
returns-in-PurgeQueueInProgress c = rw c.in-PurgeQueueInProgress.is refl

pub returns-in-InvalidMessageContents : goal.returns-in-InvalidMessageContents
unfolding error_text digits
returns-in-InvalidMessageContents c = rw c.in-InvalidMessageContents.is refl

pub returns-in-OverLimit : goal.returns-in-OverLimit
unfolding error_text digits
returns-in-OverLimit c = rw c.in-OverLimit.is refl

pub returns-in-ReceiptHandleIsInvalid : goal.returns-in-ReceiptHandleIsInvalid
unfolding error_text digits
returns-in-ReceiptHandleIsInvalid c = rw c.in-ReceiptHandleIsInvalid.is refl

pub returns-in-MessageNotInflight : goal.returns-in-MessageNotInflight
unfolding error_text digits
returns-in-MessageNotInflight c = rw c.in-MessageNotInflight.is refl

pub returns-in-EmptyBatchRequest : goal.returns-in-EmptyBatchRequest
unfolding error_text digits
returns-in-EmptyBatchRequest c = rw c.in-EmptyBatchRequest.is refl

pub returns-in-TooManyEntriesInBatchRequest : goal.returns-in-TooManyEntriesInBatchRequest
unfolding error_text digits
returns-in-TooManyEntriesInBatchRequest c = rw c.in-TooManyEntriesInBatchRequest.is refl

pub returns-in-InvalidBatchEntryId : goal.returns-in-InvalidBatchEntryId
unfolding error_text digits
returns-in-InvalidBatchEntryId c = rw c.in-InvalidBatchEntryId.is refl

pub returns-in-BatchEntryIdsNotDistinct : goal.returns-in-BatchEntryIdsNotDistinct
unfolding error_text digits
returns-in-BatchEntryIdsNotDistinct c = rw c.in-BatchEntryIdsNotDistinct.is refl

pub returns-in-BatchRequestTooLong : goal.returns-in-BatchRequestTooLong
unfolding error_text digits
returns-in-BatchRequestTooLong c = rw c.in-BatchRequestTooLong.is refl

pub returns-in-ResourceNotFoundException : goal.returns-in-ResourceNotFoundException
unfolding error_text digits
returns-in-ResourceNotFoundException c = rw c.in-ResourceNotFoundException.is refl

pub returns-in-UnsupportedOperation : goal.returns-in-UnsupportedOperation
unfolding error_text digits
returns-in-UnsupportedOperation c = rw c.in-UnsupportedOperation.is refl

pub returns-in-TableFull : goal.returns-in-TableFull
unfolding error_text digits
returns-in-TableFull c = rw c.in-TableFull.is refl

pub returns-in-HomeDraining : goal.returns-in-HomeDraining
unfolding error_text digits
returns-in-HomeDraining c = rw c.in-HomeDraining.is refl
