-- Laws of the tables.
mod TablesLaws
