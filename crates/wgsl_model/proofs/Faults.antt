-- Messages, worked.
mod SnippetRows
