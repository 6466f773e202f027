mod Tables
mod Views
mod Chains
mod Lists
mod Statements
