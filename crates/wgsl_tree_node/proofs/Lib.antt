pub mod StatementLists
