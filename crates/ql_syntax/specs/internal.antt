-- Words that only private clauses cite: nothing that a reader of the promises must believe.
pub mod NumberParts
pub mod EscapeParts
pub mod Places
pub mod QuotedSteps
pub mod TokenParts
pub mod Following
pub mod Views
pub mod FilterReaders
pub mod StatementReaders
