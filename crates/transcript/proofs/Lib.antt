mod Rows
mod Words
mod Written
